-- Every span begins before it ends. Assumes nothing.
use Rattle.std.proofs.Common.{◌≡◌, ℕ, zero, suc, ◌+◌, ◌<◌, ◌≤◌, Bool, true, false, cond, not, ◌&&◌, eqb, ltb, leb, List, [], ◌∷◌, length, get_or, set, replicate, Some, None, Option, sym, refl, ap, ◌∙◌, subst, ap₂, arith}
use Rattle.std.proofs.lemmas.Bool.{ltb-true, ltb-false, lt-ltb, le-ltb, leb-false, not-false}
use Rattle.semantics.specs.declared.row.Operation.{Operation}
use Rattle.semantics.specs.declared.row.Epoch.{Epoch}
use Rattle.semantics.specs.declared.row.Ended.{Ended}
use Rattle.semantics.specs.declared.verdict.Conviction.{Conviction}
use Rattle.semantics.specs.declared.verdict.Verdict.{Verdict}
use Rattle.semantics.specs.Calls.{Call, commit, perform, advance, begin, end}
use Rattle.semantics.specs.Effect.{Outcome, effect, touch, performed, ending}
use Rattle.semantics.specs.Judging.{judge}
use Rattle.semantics.specs.Laws.{Rule, Precedes, by_rule, law26, end_laws}
use Rattle.semantics.specs.Lists.{first_some, change}
use Rattle.semantics.specs.Puts.{put_verdict}
use Rattle.semantics.specs.State.{State, Thread, idle, thread_of, epoch_at}
use Rattle.semantics.specs.Trace.{Trace, Follows, new, met}
use Rattle.accounts.specs.Accounts.{Account, Open, Owed, Waiting, Judged, Dropped, Entry, Log, same, judge_many, note, log}
use Rattle.accounts.specs.Deeds.{deed}
use Rattle.accounts.specs.Lists.{count, one_if, All}
use Rattle.accounts.proofs.Books.{Books, ended_any, threads_by}
use Rattle.accounts.proofs.Counting.{all_map, count_le, count_push, none_count, count_none}
use Rattle.accounts.proofs.Entries.{join_owed, stayed}
use Rattle.accounts.proofs.Exact.{books}
use Rattle.accounts.proofs.Judging.{ran, noted}
use Rattle.accounts.proofs.Moving.{tally, tallies}
use Rattle.accounts.proofs.Queues.{count_kept, count_change, find_in}
use Rattle.accounts.proofs.Settling.{refused_deed, at_settle, at_settle_break, at_close, at_close_break}
use Rattle.accounts.proofs.Steps.{Passes, checked}
use Rattle.accounts.proofs.Ways.{Ways, by_ways}

-- no open epoch was used before it began, or begins after its thread's clock; every span begins before it ends
abbrev backwards : Ended → Bool
backwards r = not (ltb r.from r.until)

abbrev Timely : Thread → Type 0
Timely w = (count (λ e. ltb e.used e.from) w.epochs ≡ 0) × (count (λ e. ltb w.clock e.from) w.epochs ≡ 0)

pub record Spanned (s : State) (l : Log) : Type 0 where
  pub timely : (t : ℕ) → Timely (thread_of s t)
  pub spans : tallies ended_any backwards l.epochs ≡ 0

-- a later clock
later_clock : (a b : ℕ) (es : List Epoch) → a ≤ b → count (λ e. ltb a e.from) es ≡ 0 → count (λ e. ltb b e.from) es ≡ 0
later_clock a b es l h = count_none (λ e. ltb b e.from) es (all_map es (λ e k. le-ltb b e.from (let q = ltb-false a e.from k in omega arith)) (none_count (λ e. ltb a e.from) es h))

change_none : {A : Type 0} (q p : A → Bool) (f : A → A) (xs : List A) → All (λ x. q (f x) ≡ false) xs → count q xs ≡ 0 → count q (change p f xs) ≡ 0
change_none q p f [] a h = refl
change_none q p f (x ∷ xs) a h = by (p x) (change_none q p f xs a.1 (omega arith))
  where
    by : (b : Bool) → count q (change p f xs) ≡ 0 → count q (cond b (f x ∷ xs) (x ∷ change p f xs)) ≡ 0
    by true i = ap (λ b. one_if b + count q xs) a.0 ∙ omega arith
    by false i = omega arith

-- an end that breaks no law comes after the last use
end_late : (t : ℕ) (e : Epoch) (v τ : ℕ) → end_laws t e v τ ≡ None → e.used < τ
end_late t e v τ z = by (ltb e.used τ) refl _ (law26 t e v) z
  where
    by : (x : Bool) → ltb e.used τ ≡ x → (c : Conviction) (o : Option Conviction) → first_some (cond x None (Some c) ∷ o ∷ []) ≡ None → e.used < τ
    by true q c o k = ltb-true e.used τ q
    by false q c o k = let z : ◌≡◌ {A = ℕ} 0 1 = cc in absurd (omega arith)

module _ (B : Precedes) (s : State) (l : Log) (b : Books s l) (h : Spanned s l) where
  abbrev Goal : Call → Outcome → Type 0
  Goal c o = Spanned o.state (note l (deed c o.answer))

  set_one : (t : ℕ) (w : Thread) → t < length s.threads → Timely w → (u : ℕ) → Timely (get_or (set s.threads t w) u idle)
  set_one t w k g = threads_by (λ _ w. Timely w) s.threads t w k g (λ u _. h.timely u)

  in_of : (t : ℕ) → leb (length s.threads) t ≡ false → t < length s.threads
  in_of t e = leb-false (length s.threads) t e

  at_perform : (t n τ : ℕ) → Passes s (perform t n τ) → (o : Operation) → Timely (performed (thread_of s t) o τ)
  at_perform t n τ f o = (used_of _, clock_of _)
    where
      w : Thread
      w = thread_of s t

      clock_le : w.clock ≤ τ
      clock_le = ltb-false τ w.clock (checked s (perform t n τ) f).1.0

      from_le : count (λ e. ltb τ e.from) w.epochs ≡ 0
      from_le = later_clock w.clock τ w.epochs clock_le (h.timely t).1

      used_of : (c : Bool) → count (λ e. ltb e.used e.from) (cond c (change (λ e. eqb e.place o.place) (touch τ o) w.epochs) w.epochs) ≡ 0
      used_of false = (h.timely t).0
      used_of true = change_none (λ e. ltb e.used e.from) (λ e. eqb e.place o.place) (touch τ o) w.epochs (none_count (λ e. ltb τ e.from) w.epochs from_le) (h.timely t).0

      clock_of : (c : Bool) → count (λ e. ltb τ e.from) (cond c (change (λ e. eqb e.place o.place) (touch τ o) w.epochs) w.epochs) ≡ 0
      clock_of false = from_le
      clock_of true = count_change (λ e. ltb τ e.from) (λ e. eqb e.place o.place) (touch τ o) w.epochs (λ _. refl) ∙ from_le

  at_begin : (t k p v τ : ℕ) → Passes s (begin t k p v τ) → Goal (begin t k p v τ) (effect B s (begin t k p v τ))
  at_begin t k p v τ f = record {
    timely = set_one t _ (in_of t (checked s (begin t k p v τ) f).0) (
      count_push (λ e. ltb e.used e.from) w.epochs _ ∙ ap₂ ◌+◌ (h.timely t).0 (ap one_if (le-ltb τ τ (omega arith))),
      count_push (λ e. ltb τ e.from) w.epochs _ ∙ ap₂ ◌+◌ from_le (ap one_if (le-ltb τ τ (omega arith))),
    );
    spans = count_push (λ e. ended_any e.account && backwards e.row) l.epochs _ ∙ (let a = h.spans in omega arith);
  }
    where
      w : Thread
      w = thread_of s t

      from_le : count (λ e. ltb τ e.from) w.epochs ≡ 0
      from_le = later_clock w.clock τ w.epochs (ltb-false τ w.clock (checked s (begin t k p v τ) f).1.1.1.0) (h.timely t).1

  at_end : (t p v τ : ℕ) → Passes s (end t p v τ) → (e : Epoch) → epoch_at (thread_of s t) p ≡ Some e → end_laws t e v τ ≡ None → Goal (end t p v τ) (ending s t e v τ None)
  at_end t p v τ f e q z =
      let w = thread_of s t in
      record {
        timely = set_one t _ (in_of t (checked s (end t p v τ) f).0) (
          (let a = count_kept (λ x. eqb x.place e.place) (λ x. ltb x.used x.from) w.epochs in let c = (h.timely t).0 in omega arith),
          (let a = count_kept (λ x. eqb x.place e.place) (λ x. ltb τ x.from) w.epochs in
              let c = later_clock w.clock τ w.epochs (ltb-false τ w.clock (checked s (end t p v τ) f).1.1.0) (h.timely t).1 in omega arith),
        );
        spans = join_owed B s l b t p v τ f e q ended_any backwards refl refl ∙ ap₂ ◌+◌ h.spans (ap (λ x. one_if (not x)) (lt-ltb e.from τ
            (let a = end_late t e v τ z in let c = ltb-false e.used e.from (find_in (λ x. ltb x.used x.from) (λ x. eqb x.place p) w.epochs e q (h.timely t).0) in omega arith)));
      }

  judged_spans : (due : Ended → Bool) (v : Verdict) → Spanned (put_verdict (judge due s s.waiting 0).state v) (judge_many (ran due s s.waiting 0).m l)
  judged_spans due v =
      let r = ran due s s.waiting 0 in
      record {
        timely = λ t. subst (λ ws. Timely (get_or ws t idle)) (sym r.threads) (h.timely t);
        spans = (noted s.waiting l r.m r.fits b.queue b.waiting).others ended_any backwards refl ∙ h.spans;
      }

  as_before : (s' : State) → s'.threads ≡ s.threads → Spanned s' l
  as_before s' e = record { timely = λ t. subst (λ ws. Timely (get_or ws t idle)) (sym e) (h.timely t); spans = h.spans }

  ways : Ways B s Goal
  ways = record {
    refuses = λ c r. subst (λ d. Spanned s (note l d)) (sym (refused_deed c r)) h;
    presets = λ _ _ _. as_before _ refl;
    commits = λ t c p v f. record { timely = set_one t _ (in_of t (checked s (commit t c p v) f).0) (h.timely t); spans = h.spans };
    advances = λ t τ f. record { timely = set_one t _ (in_of t (checked s (advance t τ) f).0) ((h.timely t).0, later_clock (thread_of s t).clock τ (thread_of s t).epochs (ltb-false τ (thread_of s t).clock (checked s (advance t τ) f).1.0) (h.timely t).1); spans = h.spans };
    begins = at_begin;
    performs = λ t n τ f o _ _. record { timely = set_one t (performed (thread_of s t) o τ) (in_of t (checked s (perform t n τ) f).0) (at_perform t n τ f o); spans = h.spans };
    perform_breaks = λ _ _ _ _. as_before _ refl;
    ends = at_end;
    end_breaks = λ _ _ _ _ _. as_before _ refl;
    reports = λ n e q. record { timely = h.timely; spans = stayed s l b n e q Waiting ended_any backwards refl ∙ h.spans };
    drop_breaks = λ n e q _. record { timely = h.timely; spans = stayed s l b n e q Dropped ended_any backwards refl ∙ h.spans };
    drops_later = λ n e q _ _. record { timely = h.timely; spans = stayed s l b n e q Dropped ended_any backwards refl ∙ h.spans };
    settles = at_settle s l b (λ _. Spanned) (λ due v _ _. judged_spans due v);
    settle_breaks = at_settle_break s l b (λ _. Spanned) (λ due v _ _. judged_spans due v);
    closes = at_close s l b (λ _. Spanned) (λ due v _ _. judged_spans due v);
    close_breaks = at_close_break s l b (λ _. Spanned) (λ due v _ _. judged_spans due v);
  }

idle_timely : (n t : ℕ) → Timely (get_or (replicate n idle) t idle)
idle_timely zero t = (refl, refl)
idle_timely (suc n) zero = (refl, refl)
idle_timely (suc n) (suc t) = idle_timely n t

pub spanned : (R : Rule) (n : ℕ) {tr : Trace} {s : State} → Follows R n tr s → Spanned s (log tr)
spanned R n new = record { timely = idle_timely n; spans = refl }
spanned R n (met {tr = tr} {s = s} r c) = by_ways (by_rule R) s (Goal (by_rule R) s (log tr) (books R n r) (spanned R n r)) (ways (by_rule R) s (log tr) (books R n r) (spanned R n r)) c

pub judged_span : (s : State) (l : Log) → Books s l → Spanned s l → All (λ e. e.from < e.until) l.judgings
judged_span s l b h = all_map l.judgings (λ r e. ltb-true r.from r.until (not-false _ e)) (none_count backwards l.judgings (let a = b.judgings backwards in let c = less l.epochs in let d = h.spans in omega arith))
  where
    one : (a : Account) (x : Bool) → one_if (same Judged a && x) ≤ one_if (not (same Open a) && x)
    one Open x = omega arith
    one Owed x = omega arith
    one Waiting x = omega arith
    one Judged x = omega arith
    one Dropped x = omega arith

    less : (es : List Entry) → tally Judged backwards es ≤ tallies ended_any backwards es
    less es = count_le _ _ es (λ e. one e.account (backwards e.row))
