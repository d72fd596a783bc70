-- One call of a watch: refused, convicted or taken. Assumes nothing.
use Rattle.std.specs.Prelude.{List, [], ◌∷◌, Some, None, Option}
use Rattle.semantics.specs.declared.verdict.Refusal.{Refusal}
use Rattle.semantics.specs.Calls.{Call, Answer, refused}
use Rattle.semantics.specs.Effect.{Outcome, effect}
use Rattle.semantics.specs.Laws.{Precedes}
use Rattle.semantics.specs.Lists.{first_of}
use Rattle.semantics.specs.Refusals.{refusals}
use Rattle.semantics.specs.State.{State}

-- A refused call leaves the state as it was.
abbrev pub answered : Precedes → State → Call → Option Refusal → Outcome
answered B s c (Some r) = record { state = s; answer = refused r }
answered B s c None = effect B s c

abbrev pub step : Precedes → State → Call → Outcome
step B s c = answered B s c (first_of (refusals s c))

-- The answers to a list of calls.
abbrev pub answers : Precedes → State → List Call → List Answer
answers B s [] = []
answers B s (c ∷ cs) = (step B s c).answer ∷ answers B (step B s c).state cs
