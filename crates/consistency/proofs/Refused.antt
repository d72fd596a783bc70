-- A refused call leaves the state as it was. Assumes nothing.
use Rattle.std.proofs.Common.{◌≡◌, Bool, true, false, ltb, Some, None, Option, refl, ap}
use Rattle.std.proofs.lemmas.Bool.{both_ways}
use Rattle.semantics.specs.declared.row.Operation.{Operation}
use Rattle.semantics.specs.declared.row.Epoch.{Epoch}
use Rattle.semantics.specs.declared.row.Ended.{Ended}
use Rattle.semantics.specs.declared.verdict.Conviction.{Conviction}
use Rattle.semantics.specs.declared.verdict.Refusal.{Refusal}
use Rattle.semantics.specs.declared.verdict.Verdict.{Verdict}
use Rattle.semantics.specs.declared.verdict.Verdict.TheVariants.{Running, Clean, Guilty}
use Rattle.semantics.specs.Calls.{Call, preset, commit, perform, advance, begin, end, report, drop, settle, close, Answer, taken, refused, convicted}
use Rattle.semantics.specs.Calls
use Rattle.semantics.specs.Effect.{effect, perform_found, performing, end_found, ending, report_found, drop_found, dropping, settled, closed, unless_fault}
use Rattle.semantics.specs.Judging.{Judging, judge, safe}
use Rattle.semantics.specs.Laws.{Precedes, perform_laws, end_laws}
use Rattle.semantics.specs.Lists.{first_of}
use Rattle.semantics.specs.Puts.{put_verdict}
use Rattle.semantics.specs.Refusals.{refusals}
use Rattle.semantics.specs.State.{State, thread_of, outstanding_as, epoch_at, owed_as}
use Rattle.semantics.specs.Step.{answered}
use Rattle.consistency.specs.Promises.{RefusedChangesNothing}

abbrev says_refused : Answer → Bool
says_refused (taken k) = false
says_refused Calls.clean = false
says_refused (refused r) = true
says_refused (convicted c) = false

-- What passed the tests is not refused.
effect_takes : (B : Precedes) (s : State) (c : Call) → says_refused (effect B s c).answer ≡ false
effect_takes B s (preset p v) = refl
effect_takes B s (commit t c p v) = refl
effect_takes B s (perform t n τ) = found (outstanding_as (thread_of s t) n)
  where
    lawful : (o : Operation) (x : Option Conviction) → says_refused (performing s t τ o x).answer ≡ false
    lawful o None = refl
    lawful o (Some c) = refl

    found : (x : Option Operation) → says_refused (perform_found B s t τ x).answer ≡ false
    found None = refl
    found (Some o) = lawful o (perform_laws B (thread_of s t) t o)
effect_takes B s (advance t τ) = refl
effect_takes B s (begin t k p v τ) = refl
effect_takes B s (end t p v τ) = found (epoch_at (thread_of s t) p)
  where
    lawful : (e : Epoch) (x : Option Conviction) → says_refused (ending s t e v τ x).answer ≡ false
    lawful e None = refl
    lawful e (Some c) = refl

    found : (x : Option Epoch) → says_refused (end_found s t v τ x).answer ≡ false
    found None = refl
    found (Some e) = lawful e (end_laws t e v τ)
effect_takes B s (report n) = found (owed_as s n)
  where
    found : (x : Option Ended) → says_refused (report_found s n x).answer ≡ false
    found None = refl
    found (Some e) = refl
effect_takes B s (drop n) = found (owed_as s n)
  where
    told : (v : Verdict) (s : State) (c : Conviction) → says_refused (dropping v s c).answer ≡ false
    told Running s c = refl
    told Clean s c = refl
    told (Guilty g) s c = refl

    found : (x : Option Ended) → says_refused (drop_found s n x).answer ≡ false
    found None = refl
    found (Some e) = told s.verdict _ _
effect_takes B s settle = by (judge (λ e. ltb e.from (safe s)) s s.waiting 0)
  where
    told : (j : Judging) (x : Option Conviction) → says_refused (unless_fault x j.state (record { state = j.state; answer = taken j.done })).answer ≡ false
    told j None = refl
    told j (Some c) = refl

    by : (j : Judging) → says_refused (settled j).answer ≡ false
    by j = told j j.fault
effect_takes B s close = by (judge (λ e. true) s s.waiting 0)
  where
    told : (j : Judging) (x : Option Conviction) → says_refused (unless_fault x j.state (record { state = put_verdict j.state Clean; answer = Calls.clean })).answer ≡ false
    told j None = refl
    told j (Some c) = refl

    by : (j : Judging) → says_refused (closed j).answer ≡ false
    by j = told j j.fault

pub refused_changes_nothing : RefusedChangesNothing
refused_changes_nothing B s c r e = by (first_of (refusals s c)) e
  where
    by : (x : Option Refusal) → (answered B s c x).answer ≡ refused r → (answered B s c x).state ≡ s
    by (Some q) e = refl
    by None e = absurd (both_ways _ (effect_takes B s c) (ap says_refused e))
