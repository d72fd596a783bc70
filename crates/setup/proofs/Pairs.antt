-- Two fields counted. Assumes nothing.
use Rattle.std.proofs.Common.{◌≡◌, ℕ, ◌<◌, List, [], ◌∷◌, length, Some, None, refl, ap, arith}
use Rattle.setup.specs.Setups.{two}

-- a field more than two
pub two_more : (a b : List ℕ) (fs : List (List ℕ)) → 0 < length fs → two (a ∷ b ∷ fs) ≡ None
two_more a b [] some = absurd (omega arith)
two_more a b (f ∷ fs) some = refl

-- the fields that two were taken from
pub two_from_some : (fs : List (List ℕ)) (p : List ℕ × List ℕ) → two fs ≡ Some p → fs ≡ p.0 ∷ p.1 ∷ []
two_from_some [] p e = let z : ◌≡◌ {A = ℕ} 0 1 = cc in absurd (omega arith)
two_from_some (a ∷ []) p e = let z : ◌≡◌ {A = ℕ} 0 1 = cc in absurd (omega arith)
two_from_some (a ∷ b ∷ []) p e =
    let made : List ℕ × List ℕ = (a, b) in
    let same : made ≡ p = cc in
    ap (λ (q : List ℕ × List ℕ). q.0 ∷ q.1 ∷ []) same
two_from_some (a ∷ b ∷ c ∷ fs) p e = let z : ◌≡◌ {A = ℕ} 0 1 = cc in absurd (omega arith)
