-- What becomes of notices. Assumes nothing.
use Rattle.std.proofs.Common.{◌≡◌, ℕ, ◌+◌, ◌<◌, ◌≤◌, Bool, true, false, cond, not, eqb, leb, ◌⊎◌, List, [], ◌∷◌, ◌++◌, length, Some, None, Option, MatchResult, inl, inr, sym, refl, ap, ◌∙◌, true≢false, arith}
use Rattle.std.proofs.lemmas.Bool.{le-leb, lt-leb}
use Rattle.std.specs.List.{position}
use Rattle.std.specs.Option.{is_some, ok_or}
use Rattle.semantics.specs.declared.row.Ended.{Ended}
use Rattle.semantics.specs.declared.verdict.Conviction.{Conviction}
use Rattle.semantics.specs.declared.verdict.Law.TheVariants.{Dropped}
use Rattle.semantics.specs.declared.verdict.Refusal.TheVariants.{NotOwed, Over}
use Rattle.semantics.specs.declared.verdict.Limit.TheVariants as limit
use Rattle.semantics.specs.declared.verdict.Verdict.{Verdict}
use Rattle.semantics.specs.declared.verdict.Verdict.TheVariants.{Running, Clean, Guilty}
use Rattle.semantics.specs.Calls.{report, drop, taken, convicted}
use Rattle.semantics.specs.Effect.{report_found, drop_found, dropping}
use Rattle.semantics.specs.Judging.{insert}
use Rattle.semantics.specs.Laws.{Precedes}
use Rattle.semantics.specs.Lists.{first_of}
use Rattle.semantics.specs.Puts.{put_queues, put_counts, convict, without}
use Rattle.semantics.specs.Refusals.{refusals}
use Rattle.semantics.specs.State.{State, owed_as}
use Rattle.thread.proofs.Lists.{found_from_position, none_from_position, filter_shorter}
use Rattle.thread.proofs.Tests.{skip, stop}
use Rattle.table.specs.Checks.{no_row, owed_in, Owes}
use Rattle.table.specs.Told.{Meets}
use Rattle.table.proofs.Answers.{takes, goes}

-- The row that was looked up.
pub owes_by : (s : State) (n : ℕ) (r : Option ℕ) → r ≡ position (λ e. eqb e.number n) s.owed
    → MatchResult (ok_or r NotOwed) (λ i. (first_of (refusals s (drop n)) ≡ None) × Owes s n i) (λ f. first_of (refusals s (drop n)) ≡ Some f)
owes_by s n None h = stop (not (is_some (owed_as s n))) NotOwed [] (ap (λ o. not (is_some o)) (none_from_position (λ e. eqb e.number n) s.owed (sym h)))
owes_by s n (Some i) h =
    let f = found_from_position (λ e. eqb e.number n) s.owed i (sym h) in
    let o = f.here no_row in (
      skip (not (is_some (owed_as s n))) NotOwed [] (ap (λ o. not (is_some o)) o),
      record { row = sym h; found = o; within = f.within; fewer = filter_shorter (λ e. eqb e.number n) s.owed (owed_in s i) o },
    )

-- The tests of a drop, by what is owed.
pub drop_free : (s : State) (n i : ℕ) → Owes s n i → first_of (refusals s (drop n)) ≡ None
drop_free s n i o = skip (not (is_some (owed_as s n))) NotOwed [] (ap (λ x. not (is_some x)) o.found)

pub drop_refused : (s : State) (n : ℕ) → owed_as s n ≡ None → first_of (refusals s (drop n)) ≡ Some NotOwed
drop_refused s n e = stop (not (is_some (owed_as s n))) NotOwed [] (ap (λ x. not (is_some x)) e)

-- A report on a running watch has the tests of a drop, then the limit of waiting notices.
module _ (s : State) (n : ℕ) (v : s.verdict ≡ Running) where
  pub report_unowed : (first_of (refusals s (drop n)) ≡ Some NotOwed) → first_of (refusals s (report n)) ≡ Some NotOwed
  report_unowed e = goes s _ v ∙ by (not (is_some (owed_as s n))) e
    where
      by : (b : Bool) → cond b (Some NotOwed) None ≡ Some NotOwed → cond b (Some NotOwed) (first_of ((leb 128 (length s.waiting), Over limit.Waiting) ∷ [])) ≡ Some NotOwed
      by true e = refl
      by false e = absurd (true≢false (sym (ap is_some e)))

  reaches : (i : ℕ) → Owes s n i → first_of (refusals s (report n)) ≡ first_of ((leb 128 (length s.waiting), Over limit.Waiting) ∷ [])
  reaches i o = goes s _ v ∙ skip (not (is_some (owed_as s n))) NotOwed ((leb 128 (length s.waiting), Over limit.Waiting) ∷ []) (ap (λ x. not (is_some x)) o.found)

  pub may_report : (i : ℕ) → Owes s n i → length s.waiting < 128 → first_of (refusals s (report n)) ≡ None
  may_report i o l = reaches i o ∙ skip (leb 128 (length s.waiting)) (Over limit.Waiting) [] (lt-leb 128 (length s.waiting) l)

  pub waits_too_many : (i : ℕ) → Owes s n i → 128 ≤ length s.waiting → first_of (refusals s (report n)) ≡ Some (Over limit.Waiting)
  waits_too_many i o l = reaches i o ∙ stop (leb 128 (length s.waiting)) (Over limit.Waiting) [] (le-leb 128 (length s.waiting) l)

pub reports : (B : Precedes) (s : State) (n i : ℕ) → first_of (refusals s (report n)) ≡ None → Owes s n i
    → Meets B s (report n) (taken 0) (put_queues s (without n s.owed) (insert (owed_in s i) s.waiting))
reports B s n i r o = sym (takes B s (report n) r ∙ ap (report_found s n) o.found)

-- A state without a notice that is dropped.
abbrev pub dropped_from : State → ℕ → State
dropped_from s n = put_counts (put_queues s (without n s.owed) s.waiting) s.begins s.ends s.judged (s.dropped + 1)

abbrev pub lapse : ℕ → Ended → Conviction
lapse n e = record { law = Dropped; thread = e.thread; number = n; other = e.place }

-- A watch that is convicted takes a drop and says nothing.
pub drop_quietly : (B : Precedes) (s : State) (n i : ℕ) → first_of (refusals s (drop n)) ≡ None → Owes s n i → (g : Conviction) → s.verdict ≡ Guilty g → Meets B s (drop n) (taken 0) (dropped_from s n)
drop_quietly B s n i r o g v = sym (takes B s (drop n) r ∙ ap (drop_found s n) o.found ∙ ap (λ x. dropping x (dropped_from s n) (lapse n (owed_in s i))) v)

pub drop_convicts : (B : Precedes) (s : State) (n i : ℕ) → first_of (refusals s (drop n)) ≡ None → Owes s n i → (s.verdict ≡ Running) ⊎ (s.verdict ≡ Clean)
    → Meets B s (drop n) (convicted (lapse n (owed_in s i))) (convict (dropped_from s n) (lapse n (owed_in s i)))
drop_convicts B s n i r o v = sym (takes B s (drop n) r ∙ ap (drop_found s n) o.found ∙ by v)
  where
    by : (s.verdict ≡ Running) ⊎ (s.verdict ≡ Clean) → dropping s.verdict (dropped_from s n) (lapse n (owed_in s i)) ≡ record { state = convict (dropped_from s n) (lapse n (owed_in s i)); answer = convicted (lapse n (owed_in s i)) }
    by (inl h) = ap (λ x. dropping x (dropped_from s n) (lapse n (owed_in s i))) h
    by (inr h) = ap (λ x. dropping x (dropped_from s n) (lapse n (owed_in s i))) h

pub not_guilty : (v : Verdict) → (v ≡ Running) ⊎ (v ≡ Clean) → (g : Conviction) → v ≡ Guilty g → ⊥
not_guilty v (inl h) g e = let z : ◌≡◌ {A = ℕ} 0 1 = cc in omega arith
not_guilty v (inr h) g e = let z : ◌≡◌ {A = ℕ} 0 1 = cc in omega arith
