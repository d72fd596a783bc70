-- Numbers in base ten, with no zero in front, of at most 64 bits. Assumes nothing.
use Rattle.std.specs.Prelude.{ℕ, ◌+◌, ◌-◌, ◌*◌, ◌^◌, Bool, false, cond, not, ◌&&◌, List, [], ◌∷◌, length, Some, None, Option, ◌==◌, nat_lt}
use Rattle.std.specs.Str.{all_ascii_digits}

-- The number that digits write when they follow those of n.
abbrev pub onward : ℕ → List ℕ → ℕ
onward n [] = n
onward n (d ∷ ds) = onward (10 * n + (d - 48)) ds

-- A zero stands in front of another byte.
abbrev pub padded : List ℕ → Bool
padded [] = false
padded (c ∷ []) = false
padded (c ∷ d ∷ ds) = c == 48

-- One digit or more and nothing else, no zero in front, and at most 2 ^ 64 - 1.
abbrev pub numeral : List ℕ → Bool
numeral bs = (nat_lt 0 (length bs) && all_ascii_digits bs) && (not (padded bs) && nat_lt (onward 0 bs) (2 ^ 64))

-- The number of a field, if it is one.
abbrev pub number : List ℕ → Option ℕ
number bs = cond (numeral bs) (Some (onward 0 bs)) None
