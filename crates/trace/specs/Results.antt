-- What playing an event gives and leaves. Assumes nothing.
use Rattle.std.specs.Prelude.{◌≡◌, Some, None, Ok, Err, Option, Result}
use Rattle.semantics.specs.Laws.{Rule, Precedes, by_rule}
use Rattle.semantics.specs.State.{State}
use Rattle.table.specs.declared.fault.Fault.{Fault}
use Rattle.trace.specs.Plays.{Played}
use Rattle.watch.specs.Took.{Held}

-- The fault that a result gives.
abbrev pub fault_of : Result (Unit {0}) Fault → Option Fault
fault_of (Ok u) = None
fault_of (Err f) = Some f

-- A watch that held `before` was played so: the result tells the fault, the watch holds the state, and the rule is the same.
pub record Plays {X : Type 0} (orders : X → Rule) (before : Held X) (p : Played) (r : Result (Unit {0}) Fault) (after : Held X) : Type 0 where
  pub answer : fault_of r ≡ p.fault
  pub state : after.state ≡ p.state
  pub same : after.rule ≡ before.rule

-- The same of a play that is told by the order of a rule and a state: those that the watch held.
abbrev pub PlaysAs : {X : Type 0} → (X → Rule) → Held X → (Precedes → State → Played) → Result (Unit {0}) Fault → Held X → Type 0
PlaysAs orders before how r after = Plays orders before (how (by_rule (orders before.rule)) before.state) r after
