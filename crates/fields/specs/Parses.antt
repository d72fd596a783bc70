-- A field read as text. Assumes nothing.
use Rattle.std.specs.Prelude.{ℕ, List, Err, Result, IsUtf8}

-- A way of reading text has no value for bytes: they are no text, or text that it refuses.
abbrev pub ParsesNone : {T E : Type 0} → (List ℕ → Result T E → Type 0) → List ℕ → Type 0
ParsesNone {E = E} gives bs = IsUtf8 bs → (e : E) × gives bs (Err e)
