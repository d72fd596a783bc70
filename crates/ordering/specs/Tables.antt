-- The set that a table of bytes writes out. Assumes nothing.
use Rattle.std.specs.Prelude.{ℕ, ◌+◌, ◌*◌, ◌/◌, ◌%◌, Bool, cond, not, ◌||◌, List, map, length, ◌==◌, nat_le, slice_index}
use Rattle.std.specs.List.{range_with_len}
use Rattle.ordering.specs.declared.class.Class.{Class}
use Rattle.ordering.specs.Classes.{class_of, number_of}

-- The place of a pair's byte.
abbrev pub place_of : Class → Class → ℕ
place_of first second = 18 * number_of first + number_of second

-- A table orders a pair whose byte is missing or is not zero.
abbrev pub table_orders : List ℕ → Class → Class → Bool
table_orders bytes first second = nat_le (length bytes) (place_of first second) || not (slice_index bytes (place_of first second) == 0)

-- The table of a set: at each of the 324 places 1 where the set has the pair, and 0 elsewhere.
abbrev pub table_of : (Class → Class → Bool) → List ℕ
table_of set = map (λ place. cond (set (class_of (place / 18)) (class_of (place % 18))) 1 0) (range_with_len 0 324)
