-- Judging leaves threads, owed and verdict as they were, and nothing waits where all is due and no law is broken. Assumes nothing.
use Rattle.std.proofs.Common.{◌≡◌, ℕ, ◌+◌, Bool, true, false, List, [], ◌∷◌, Some, None, Option, refl}
use Rattle.std.proofs.lemmas.Bool.{both_ways}
use Rattle.semantics.specs.declared.row.Ended.{Ended}
use Rattle.semantics.specs.declared.verdict.Conviction.{Conviction}
use Rattle.semantics.specs.Judging.{Judging, judge, judged_one, stop_at, go_on, home_laws}
use Rattle.semantics.specs.State.{State, home_of}
use Rattle.consistency.proofs.Tests.{never}

pub record Leaves (s : State) (due : Ended → Bool) (j : Judging) : Type 0 where
  pub verdict : j.state.verdict ≡ s.verdict
  pub threads : j.state.threads ≡ s.threads
  pub owed : j.state.owed ≡ s.owed
  pub none_waits : ((e : Ended) → due e ≡ true) → j.fault ≡ None → j.state.waiting ≡ []

pub judging_leaves : (due : Ended → Bool) (es : List Ended) (s : State) (k : ℕ) → Leaves s due (judge due s es k)
judging_leaves due [] s k = record { verdict = refl; threads = refl; owed = refl; none_waits = λ _ _. refl }
judging_leaves due (e ∷ es) s k = by (due e) refl (home_laws (home_of s e.place) e) (judging_leaves due es (judged_one s e) (k + 1))
  where
    by : (b : Bool) → due e ≡ b → (x : Option Conviction) → Leaves (judged_one s e) due (judge due (judged_one s e) es (k + 1))
        → Leaves s due (go_on b x (stop_at s (e ∷ es) k) (judge due (judged_one s e) es (k + 1)))
    by true p None n = record { verdict = n.verdict; threads = n.threads; owed = n.owed; none_waits = n.none_waits }
    by true p (Some c) n = record { verdict = refl; threads = refl; owed = refl; none_waits = λ _ f. absurd (never f) }
    by false p None n = record { verdict = refl; threads = refl; owed = refl; none_waits = λ a _. absurd (both_ways (due e) p (a e)) }
    by false p (Some c) n = record { verdict = refl; threads = refl; owed = refl; none_waits = λ a _. absurd (both_ways (due e) p (a e)) }
