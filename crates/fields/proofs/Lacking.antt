-- Bytes that a text does not have. Assumes nothing.
use Rattle.std.proofs.Common.{◌≡◌, ℕ, zero, suc, Bool, true, not, ◌&&◌, eqb, List, [], ◌∷◌, ◌++◌, arith}
use Rattle.std.specs.Str.Iter.{LacksByte}
use Rattle.std.proofs.lemmas.Bool.{and_parts, not-true, eqb-false}

-- Whether no byte of a text is m.
abbrev pub without : ℕ → List ℕ → Bool
without m [] = true
without m (c ∷ cs) = not (eqb c m) && without m cs

pub lacks_cons : (m c : ℕ) (cs : List ℕ) → (c ≡ m → ⊥) → LacksByte m cs → LacksByte m (c ∷ cs)
lacks_cons m c cs first rest zero lt e = first e
lacks_cons m c cs first rest (suc k) lt e = rest k (omega arith) e

pub lacks_from_without : (m : ℕ) (bs : List ℕ) → without m bs ≡ true → LacksByte m bs
lacks_from_without m [] h = λ k lt e. absurd (omega arith)
lacks_from_without m (c ∷ cs) h =
    let p = and_parts (not (eqb c m)) (without m cs) h in
    lacks_cons m c cs (eqb-false c m (not-true (eqb c m) p.0)) (lacks_from_without m cs p.1)

pub lacks_append : (m : ℕ) (xs ys : List ℕ) → LacksByte m xs → LacksByte m ys → LacksByte m (xs ++ ys)
lacks_append m [] ys hx hy = hy
lacks_append m (c ∷ cs) ys hx hy = lacks_cons m c (cs ++ ys) (λ e. hx zero (omega arith) e) (lacks_append m cs ys (λ k lt e. hx (suc k) (omega arith) e) hy)
