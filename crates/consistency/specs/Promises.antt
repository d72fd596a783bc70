-- What the verdict of a watch promises, for every rule, every number of threads and every trace. Assumes nothing.
use Rattle.std.specs.Prelude.{◌≡◌, ℕ, ◌≤◌, true, false, ◌∷◌}
use Rattle.semantics.specs.declared.verdict.Refusal.{Refusal}
use Rattle.semantics.specs.Calls.{Call, close, refused}
use Rattle.semantics.specs.Calls
use Rattle.semantics.specs.Laws.{Rule, Precedes, by_rule}
use Rattle.semantics.specs.State.{State}
use Rattle.semantics.specs.Step.{step}
use Rattle.semantics.specs.Trace.{Trace, met_with, Follows, is_clean, starting}
use Rattle.consistency.specs.Performed.{performs, TotalOrder}
use Rattle.consistency.specs.Consistent.{Consistent, AllPerformed, KeepsPlaces, CopiesAreLatest}
use Rattle.consistency.specs.Verdicts.{clean_closes, is_convicted}

-- What performed in a trace is ordered totally.
abbrev pub OrderIsTotal : Type 0
OrderIsTotal = (tr : Trace) → TotalOrder (performs tr)

-- Where a close answered clean, the trace is consistent under the rule.
abbrev pub CleanIsConsistent : Type 0
CleanIsConsistent = (R : Rule) (n : ℕ) (tr : Trace) (s : State) → Follows R n tr s → is_clean tr ≡ true → Consistent R tr

-- The same of one call: a close that answers clean makes the trace that ends with it consistent.
abbrev pub CloseIsConsistent : Type 0
CloseIsConsistent = (R : Rule) (n : ℕ) (tr : Trace) (s : State) → Follows R n tr s → (step (by_rule R) s close).answer ≡ Calls.clean → Consistent R (met_with R s close ∷ tr)

-- Where a close answered clean, a store comes after each earlier load or store of its thread to its place.
abbrev pub CleanKeepsPlaces : Type 0
CleanKeepsPlaces = (R : Rule) (n : ℕ) (tr : Trace) (s : State) → Follows R n tr s → is_clean tr ≡ true → KeepsPlaces (performs tr)

-- Where a close answered clean, each load that read the copy has the value of the latest store before it in the order, else the starting value.
abbrev pub CleanCopiesAreLatest : Type 0
CleanCopiesAreLatest = (R : Rule) (n : ℕ) (tr : Trace) (s : State) → Follows R n tr s → is_clean tr ≡ true → CopiesAreLatest (performs tr) (starting tr)

-- Where a close answered clean, every operation that a thread committed has performed, once.
abbrev pub CleanPerformsAll : Type 0
CleanPerformsAll = (R : Rule) (n : ℕ) (tr : Trace) (s : State) → Follows R n tr s → is_clean tr ≡ true → AllPerformed tr

-- A refused call leaves the state as it was.
abbrev pub RefusedChangesNothing : Type 0
RefusedChangesNothing = (B : Precedes) (s : State) (c : Call) (r : Refusal) → (step B s c).answer ≡ refused r → (step B s c).state ≡ s

-- Where a call answered with a conviction, no close answers clean, neither before nor later.
abbrev pub ConvictedNeverClean : Type 0
ConvictedNeverClean = (R : Rule) (n : ℕ) (tr : Trace) (s : State) → Follows R n tr s → is_convicted tr ≡ true → is_clean tr ≡ false

-- At most one close of a watch answers clean.
abbrev pub OneCleanClose : Type 0
OneCleanClose = (R : Rule) (n : ℕ) (tr : Trace) (s : State) → Follows R n tr s → clean_closes tr ≤ 1
