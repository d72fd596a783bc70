-- A text as its parts between the bytes of one kind. Assumes nothing.
use Rattle.std.specs.Prelude.{ℕ, List, ◌==◌}
use Rattle.std.specs.List.{slice_split}

-- The parts that stand between the bytes m: one part more than there are bytes m.
abbrev pub split : ℕ → List ℕ → List (List ℕ)
split m bs = slice_split (λ b. b == m) bs
