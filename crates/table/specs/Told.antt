-- What a table's answers say, and that a call is met. Assumes nothing.
use Rattle.std.specs.Prelude.{◌≡◌, Ok, Err, Result}
use Rattle.semantics.specs.declared.verdict.Refusal.{Refusal}
use Rattle.semantics.specs.Calls.{Call, Answer, refused, convicted}
use Rattle.semantics.specs.Effect.{Outcome}
use Rattle.semantics.specs.Laws.{Precedes}
use Rattle.semantics.specs.State.{State}
use Rattle.semantics.specs.Step.{step}
use Rattle.table.specs.declared.fault.Fault.{Fault}
use Rattle.table.specs.declared.fault.Fault.TheVariants.{Refused, Convicted}

-- The answer that a fault says.
abbrev pub fault_says : Fault → Answer
fault_says (Refused r) = refused r
fault_says (Convicted c) = convicted c

-- The answer that a result says, where f gives that of a value.
abbrev pub told : {A : Type 0} → (A → Answer) → Result A Fault → Answer
told f (Ok x) = f x
told f (Err e) = fault_says e

-- The same for a call that can only be refused.
abbrev pub tells : {A : Type 0} → (A → Answer) → Result A Refusal → Answer
tells f (Ok x) = f x
tells f (Err r) = refused r

-- A call met in s is answered by a and leaves s'.
abbrev pub Meets : Precedes → State → Call → Answer → State → Type 0
Meets B s c a s' = ◌≡◌ {A = Outcome} (record { state = s'; answer = a }) (step B s c)
