-- Fields counted. Assumes nothing.
use Rattle.std.proofs.Common.{◌≡◌, ℕ, ◌<◌, List, [], ◌∷◌, length, None, refl, arith}
use Rattle.line.specs.Columns.{six}

-- a field more than six
pub six_more : (n a b c d e : List ℕ) (fs : List (List ℕ)) → 0 < length fs → six (n ∷ a ∷ b ∷ c ∷ d ∷ e ∷ fs) ≡ None
six_more n a b c d e [] some = absurd (omega arith)
six_more n a b c d e (f ∷ fs) some = refl
