-- What a call of a watch does. Assumes nothing.
use Rattle.std.specs.Prelude.{◌≡◌, ℕ, ◌<◌, ◌≤◌, ◌∷◌, length, Ok, Err, Result}
use Rattle.semantics.specs.declared.verdict.Refusal.{Refusal}
use Rattle.semantics.specs.declared.verdict.Refusal.TheVariants.{UnknownThread}
use Rattle.semantics.specs.Asking.{WithinLeeway}
use Rattle.semantics.specs.Calls.{Call, Answer, refused}
use Rattle.semantics.specs.Laws.{Rule, by_rule}
use Rattle.semantics.specs.State.{State, thread_of}
use Rattle.semantics.specs.Step.{step}
use Rattle.semantics.specs.Trace.{Event, Trace, Follows}

-- What a watch holds: its rule, and the state of its table.
pub record Held (X : Type 0) : Type 0 where
  pub rule : X
  pub state : State

-- A call and its answer, as a trace has them.
abbrev pub event : Call → Answer → Event
event c a = record { call = c; answer = a }

-- The call, answered so, took the watch from what it held to what it holds.
-- The answer and the state are those of one step; the rule is the same; a refused call changes nothing;
-- and whatever trace the watch had met, it has now met that trace with this call and its answer.
pub record Took {X : Type 0} (orders : X → Rule) (before : Held X) (c : Call) (a : Answer) (after : Held X) : Type 0 where
  pub answer : a ≡ (step (by_rule (orders before.rule)) before.state c).answer
  pub state : after.state ≡ (step (by_rule (orders before.rule)) before.state c).state
  pub same : after.rule ≡ before.rule
  pub kept : (r : Refusal) → a ≡ refused r → after.state ≡ before.state
  pub history : (n : ℕ) (tr : Trace) → Follows (orders before.rule) n tr before.state → Follows (orders before.rule) n (event c a ∷ tr) after.state

-- What spare answers of a thread: a number within its leeway; or, of a thread that there is not, refusal 4.
abbrev pub Spares : State → ℕ → Result ℕ Refusal → Type 0
Spares s t (Ok k) = (t < length s.threads) × WithinLeeway (thread_of s t) k
Spares s t (Err f) = (f ≡ UnknownThread) × (length s.threads ≤ t)
