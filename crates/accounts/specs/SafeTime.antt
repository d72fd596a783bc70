-- The safe time of a watch never falls. Assumes nothing.
use Rattle.std.specs.Prelude.{ℕ, ◌≤◌}
use Rattle.semantics.specs.Calls.{Call}
use Rattle.semantics.specs.Judging.{safe}
use Rattle.semantics.specs.Laws.{Rule, by_rule}
use Rattle.semantics.specs.State.{State}
use Rattle.semantics.specs.Step.{step}
use Rattle.semantics.specs.Trace.{Trace, Follows}

-- Of a watch with at least one thread.
abbrev pub SafeTimeNeverFalls : Type 0
SafeTimeNeverFalls = (R : Rule) (n : ℕ) (tr : Trace) (s : State) (c : Call) → 1 ≤ n → Follows R n tr s → safe s ≤ safe (step (by_rule R) s c).state
