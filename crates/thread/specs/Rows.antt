-- Rows in the first places of an array. Assumes nothing.
use Rattle.std.specs.Prelude.{◌≡◌, ℕ, ◌-◌, ◌≤◌, List, ◌++◌, length, take, drop, replicate}
use Rattle.std.proofs.Common.{subst, sym, ap, ◌∙◌, take-append-drop, length-take-le}

-- The first `count` of n places hold rows, and each place past them is blank.
pub record IsFilled {A : Type 0} (blank : A) (n count : ℕ) (places : List A) : Type 0 where
  pub fits : count ≤ n
  pub long : length places ≡ n
  pub rest : drop count places ≡ replicate (n - count) blank

-- The rows alone give back their count and the places.
pub count_given_back : {A : Type 0} {b : A} {n k : ℕ} {xs : List A} → IsFilled b n k xs → length (take k xs) ≡ k
count_given_back {A} {b} {n} {k} {xs} f = length-take-le k xs (subst (λ m. k ≤ m) (sym f.long) f.fits)

pub places_given_back : {A : Type 0} {b : A} {n k : ℕ} {xs : List A} → IsFilled b n k xs → take k xs ++ replicate (n - length (take k xs)) b ≡ xs
places_given_back {A} {b} {n} {k} {xs} f =
    ap (λ m. take k xs ++ replicate (n - m) b) (count_given_back f) ∙ ap (λ ys. take k xs ++ ys) (sym f.rest) ∙ take-append-drop k xs
