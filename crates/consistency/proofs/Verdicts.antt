-- A convicted watch never answers clean, and a watch answers clean at most once. Assumes nothing.
use Rattle.std.proofs.Common.{◌≡◌, ℕ, ◌+◌, ◌≤◌, Bool, true, false, cond, not, ◌||◌, eqb, ltb, [], ◌∷◌, Some, None, Option, sym, refl, ap, ◌∙◌, subst, arith}
use Rattle.std.proofs.lemmas.List.{nil_from_length}
use Rattle.std.proofs.lemmas.Bool.{both_ways, eqb-true, not-false}
use Rattle.std.specs.List.{find}
use Rattle.std.specs.Option.{is_some}
use Rattle.semantics.specs.declared.row.Operation.{Operation}
use Rattle.semantics.specs.declared.row.Epoch.{Epoch}
use Rattle.semantics.specs.declared.row.Ended.{Ended}
use Rattle.semantics.specs.declared.verdict.Conviction.{Conviction}
use Rattle.semantics.specs.declared.verdict.Refusal.{Refusal}
use Rattle.semantics.specs.declared.verdict.Verdict.{Verdict}
use Rattle.semantics.specs.declared.verdict.Verdict.TheVariants.{Running, Clean, Guilty}
use Rattle.semantics.specs.Calls.{Call, preset, commit, perform, advance, begin, end, report, drop, settle, close, taken}
use Rattle.semantics.specs.Calls
use Rattle.semantics.specs.Effect.{Outcome, unless_fault, settled, closed, perform_found, performing, end_found, ending, report_found, drop_found}
use Rattle.semantics.specs.Judging.{Judging, judge, safe}
use Rattle.semantics.specs.Laws.{Rule, Precedes, by_rule, perform_laws, end_laws}
use Rattle.semantics.specs.Lists.{first_of}
use Rattle.semantics.specs.Puts.{put_verdict}
use Rattle.semantics.specs.Refusals.{refusals}
use Rattle.semantics.specs.State.{State, thread_of, outstanding_as, epoch_at, owed_as, busy}
use Rattle.semantics.specs.Step.{answered, step}
use Rattle.semantics.specs.Trace.{Trace, Follows, new, met, says_clean, is_clean}
use Rattle.consistency.specs.Verdicts.{clean_closes, is_convicted}
use Rattle.consistency.specs.Promises.{ConvictedNeverClean, OneCleanClose}
use Rattle.consistency.proofs.Judging.{Leaves, judging_leaves}
use Rattle.consistency.proofs.Tests.{passes}

-- What the verdict of a watch tells of the answers in its trace.
abbrev pub TellsBy : Verdict → Trace → State → Type 0
TellsBy Running tr s = (clean_closes tr ≡ 0) × (is_convicted tr ≡ false)
TellsBy Clean tr s = (clean_closes tr ≡ 1) × (is_convicted tr ≡ false) × (s.owed ≡ [])
TellsBy (Guilty c) tr s = clean_closes tr ≡ 0

-- The same after one more call.
abbrev Next : Trace → Call → Outcome → Type 0
Next tr c out = TellsBy out.state.verdict (record { call = c; answer = out.answer } ∷ tr) out.state

-- A running watch meets a call.
module _ (B : Precedes) (tr : Trace) (s : State) (h : TellsBy Running tr s) where
  abbrev now : State
  now = put_verdict s Running

  performs : (t n τ : ℕ) (x : Option Operation) → Next tr (perform t n τ) (perform_found B now t τ x)
  performs t n τ None = h
  performs t n τ (Some o) = lawful (perform_laws B (thread_of s t) t o)
    where
      lawful : (y : Option Conviction) → Next tr (perform t n τ) (performing now t τ o y)
      lawful (Some c) = h.0
      lawful None = h

  ends : (t p v τ : ℕ) (x : Option Epoch) → Next tr (end t p v τ) (end_found now t v τ x)
  ends t p v τ None = h
  ends t p v τ (Some e) = lawful (end_laws t e v τ)
    where
      lawful : (y : Option Conviction) → Next tr (end t p v τ) (ending now t e v τ y)
      lawful (Some c) = h.0
      lawful None = h

  reports : (n : ℕ) (x : Option Ended) → Next tr (report n) (report_found now n x)
  reports n None = h
  reports n (Some e) = h

  drops : (n : ℕ) (x : Option Ended) → Next tr (drop n) (drop_found now n x)
  drops n None = h
  drops n (Some e) = h.0

  settles : (due : Ended → Bool) (j : Judging) → Leaves now due j → Next tr settle (settled j)
  settles due j l = by j.fault
    where
      by : (x : Option Conviction) → Next tr settle (unless_fault x j.state (record { state = j.state; answer = taken j.done }))
      by (Some c) = h.0
      by None = subst (λ v. TellsBy v (record { call = settle; answer = taken j.done } ∷ tr) j.state) (sym l.verdict) h

  closes : (due : Ended → Bool) (j : Judging) → Leaves now due j → busy s ≡ 0 → Next tr close (closed j)
  closes due j l quiet = by j.fault
    where
      by : (x : Option Conviction) → Next tr close (unless_fault x j.state (record { state = put_verdict j.state Clean; answer = Calls.clean }))
      by (Some c) = h.0
      by None = (ap (λ k. k + 1) h.0, h.1, l.owed ∙ nil_from_length s.owed (let q = quiet in omega arith))

  takes : (c : Call) (x : Option Refusal) → first_of (refusals now c) ≡ x → Next tr c (answered B now c x)
  takes c (Some r) e = h
  takes (preset p v) None e = h
  takes (commit t c p v) None e = h
  takes (perform t n τ) None e = performs t n τ (outstanding_as (thread_of s t) n)
  takes (advance t τ) None e = h
  takes (begin t k p v τ) None e = h
  takes (end t p v τ) None e = ends t p v τ (epoch_at (thread_of s t) p)
  takes (report n) None e = reports n (owed_as s n)
  takes (drop n) None e = drops n (owed_as s n)
  takes settle None e = settles (λ e. ltb e.from (safe now)) (judge (λ e. ltb e.from (safe now)) now s.waiting 0) (judging_leaves _ s.waiting now 0)
  takes close None e = closes (λ e. true) (judge (λ e. true) now s.waiting 0) (judging_leaves _ s.waiting now 0) (eqb-true (busy s) 0 (not-false _ (passes (refusals now close) e).0))

-- A closed watch owes nothing, so that it refuses every call.
closed_meets : (B : Precedes) (tr : Trace) (s : State) → TellsBy Clean tr s → (c : Call) → Next tr c (step B (put_verdict s Clean) c)
closed_meets B tr s h (preset p v) = h
closed_meets B tr s h (commit t c p v) = h
closed_meets B tr s h (perform t n τ) = h
closed_meets B tr s h (advance t τ) = h
closed_meets B tr s h (begin t d p v τ) = h
closed_meets B tr s h (end t p v τ) = h
closed_meets B tr s h (report n) = h
closed_meets B tr s h (drop n) = by (first_of (refusals (put_verdict s Clean) (drop n))) refl
  where
    by : (x : Option Refusal) → first_of (refusals (put_verdict s Clean) (drop n)) ≡ x → Next tr (drop n) (answered B (put_verdict s Clean) (drop n) x)
    by (Some r) e = h
    by None e = absurd (both_ways (not (is_some (owed_as s n))) (passes (refusals (put_verdict s Clean) (drop n)) e).0 (ap (λ z. not (is_some (find (λ x. eqb x.number n) z))) h.2))
closed_meets B tr s h settle = h
closed_meets B tr s h close = h

-- A convicted watch takes drops only.
guilty_meets : (B : Precedes) (tr : Trace) (s : State) (g : Conviction) → TellsBy (Guilty g) tr s → (c : Call) → Next tr c (step B (put_verdict s (Guilty g)) c)
guilty_meets B tr s g h (preset p v) = h
guilty_meets B tr s g h (commit t c p v) = h
guilty_meets B tr s g h (perform t n τ) = h
guilty_meets B tr s g h (advance t τ) = h
guilty_meets B tr s g h (begin t d p v τ) = h
guilty_meets B tr s g h (end t p v τ) = h
guilty_meets B tr s g h (report n) = h
guilty_meets B tr s g h (drop n) = by (first_of (refusals (put_verdict s (Guilty g)) (drop n)))
  where
    found : (x : Option Ended) → Next tr (drop n) (drop_found (put_verdict s (Guilty g)) n x)
    found None = h
    found (Some d) = h

    by : (x : Option Refusal) → Next tr (drop n) (answered B (put_verdict s (Guilty g)) (drop n) x)
    by (Some r) = h
    by None = found (owed_as s n)
guilty_meets B tr s g h settle = h
guilty_meets B tr s g h close = h

meets : (B : Precedes) (tr : Trace) (s : State) (v : Verdict) → TellsBy v tr s → (c : Call) → Next tr c (step B (put_verdict s v) c)
meets B tr s Running h c = takes B tr s h c _ refl
meets B tr s Clean h c = closed_meets B tr s h c
meets B tr s (Guilty g) h c = guilty_meets B tr s g h c

-- What the verdict tells of every trace that a watch has met.
pub tells : (R : Rule) (n : ℕ) {tr : Trace} {s : State} → Follows R n tr s → TellsBy s.verdict tr s
tells R n new = (refl, refl)
tells R n (met {tr = tr} {s = s} f c) = meets (by_rule R) tr s s.verdict (tells R n f) c

-- A trace in which no close answered clean is not clean.
not_clean : (tr : Trace) → clean_closes tr ≡ 0 → is_clean tr ≡ false
not_clean [] z = refl
not_clean (e ∷ tr) z = by (says_clean e.answer) z (not_clean tr)
  where
    by : (b : Bool) → cond b (clean_closes tr + 1) (clean_closes tr) ≡ 0 → (clean_closes tr ≡ 0 → is_clean tr ≡ false) → (b || is_clean tr) ≡ false
    by true z ih = absurd (omega arith)
    by false z ih = ih z

-- The verdict is clean where the trace is.
pub verdict_is_clean : (R : Rule) (n : ℕ) (tr : Trace) (s : State) → Follows R n tr s → is_clean tr ≡ true → s.verdict ≡ Clean
verdict_is_clean R n tr s f c = by s.verdict (tells R n f)
  where
    by : (v : Verdict) → TellsBy v tr s → v ≡ Clean
    by Running h = absurd (both_ways _ (not_clean tr h.0) c)
    by Clean h = refl
    by (Guilty g) h = absurd (both_ways _ (not_clean tr h) c)

pub convicted_never_clean : ConvictedNeverClean
convicted_never_clean R n tr s f c = by s.verdict (tells R n f)
  where
    by : (v : Verdict) → TellsBy v tr s → is_clean tr ≡ false
    by Running h = not_clean tr h.0
    by Clean h = absurd (both_ways _ h.1 c)
    by (Guilty g) h = not_clean tr h

pub one_clean_close : OneCleanClose
one_clean_close R n tr s f = by s.verdict (tells R n f)
  where
    by : (v : Verdict) → TellsBy v tr s → clean_closes tr ≤ 1
    by Running h = let z = h.0 in omega arith
    by Clean h = let z = h.0 in omega arith
    by (Guilty g) h = omega arith
