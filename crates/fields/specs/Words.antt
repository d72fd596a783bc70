-- A word looked up among some things, each with a spelling. Assumes nothing.
use Rattle.std.specs.Prelude.{ℕ, List, Option}
use Rattle.std.specs.List.{find}
use Rattle.std.specs.Str.{bytes_eq}

-- The first of some things that is spelled bs.
abbrev pub among : {N : Type 0} → (N → List ℕ) → List N → List ℕ → Option N
among spells ns bs = find (λ n. bytes_eq bs (spells n)) ns
