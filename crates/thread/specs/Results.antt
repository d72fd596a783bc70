-- A check that fails with a reason where there is one. Assumes nothing.
use Rattle.std.specs.Prelude.{Some, None, Option, Ok, Err, Result}

abbrev pub unless : {A : Type 0} → Option A → Result (Unit {0}) A
unless None = Ok tt
unless (Some x) = Err x
