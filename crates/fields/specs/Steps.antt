-- Steps one after another, as long as each answers. Assumes nothing.
use Rattle.std.specs.Prelude.{Ok, Err, Option, Result}
use Rattle.std.specs.Option.{option_and_then}

-- What follows a step that found something.
infixr 20 ◌given◌
abbrev pub ◌given◌ : {A B : Type 0} → Option A → (A → Option B) → Option B
x given f = option_and_then f x

-- What follows a step that found no fault; a fault ends all.
infixr 20 ◌then◌
abbrev pub ◌then◌ : {A B E : Type 0} → Result A E → (A → Result B E) → Result B E
Ok x then f = f x
Err e then f = Err e
