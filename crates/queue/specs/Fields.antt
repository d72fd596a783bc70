-- The order of a row by its fields in turn. Assumes nothing.
use Rattle.std.specs.Prelude.{Bool, true, false, cond}

-- a is before b, or is the same and the fields after it decide
abbrev pub in_turn : {A : Type 0} → (A → A → Bool) → A → A → Bool → Bool
in_turn le a b rest = cond (le a b) (cond (le b a) rest true) false

-- false is before true
abbrev pub flag_le : Bool → Bool → Bool
flag_le a b = cond a b true
