-- A line put together field by field. Assumes nothing.
use Rattle.std.proofs.Common.{◌≡◌, ℕ, List, [], ◌∷◌, ◌++◌, append_assoc}
use Rattle.std.specs.List.{join_with_byte}

regroup : (s a b p v t e : List ℕ) → (((((s ++ a) ++ b) ++ p) ++ v) ++ t) ++ e ≡ (s ++ (a ++ (b ++ (p ++ (v ++ t))))) ++ e
regroup s a b p v t e = simp append_assoc

pub assembled : (w a b p v t : List ℕ) → (((((w ++ (32 ∷ a)) ++ (32 ∷ b)) ++ (32 ∷ p)) ++ (32 ∷ v)) ++ (32 ∷ t)) ++ (10 ∷ []) ≡ join_with_byte 32 (w ∷ a ∷ b ∷ p ∷ v ∷ t ∷ []) ++ (10 ∷ [])
assembled w a b p v t = regroup w (32 ∷ a) (32 ∷ b) (32 ∷ p) (32 ∷ v) (32 ∷ t) (10 ∷ [])
