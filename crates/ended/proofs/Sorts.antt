-- Sorting rows and then reading them as plain ones is sorting the plain ones. Assumes nothing.
use Rattle.std.proofs.Common.{◌≡◌, Bool, true, false, cond, List, [], ◌∷◌, map, refl, ap, ◌∙◌}
use Rattle.queue.specs.Order.{insert, sorted}

module _ {A B : Type 0} (f : A → B) (le : B → B → Bool) where
  abbrev by : A → A → Bool
  by x y = le (f x) (f y)

  pub map_insert : (x : A) (xs : List A) → map f (insert by x xs) ≡ insert le (f x) (map f xs)
  map_insert x [] = refl
  map_insert x (y ∷ ys) = way (le (f x) (f y)) (map_insert x ys)
    where
      way : (b : Bool) → map f (insert by x ys) ≡ insert le (f x) (map f ys) → map f (cond b (x ∷ y ∷ ys) (y ∷ insert by x ys)) ≡ cond b (f x ∷ f y ∷ map f ys) (f y ∷ insert le (f x) (map f ys))
      way true ih = refl
      way false ih = ap (λ zs. f y ∷ zs) ih

  pub map_sorted : (xs : List A) → map f (sorted by xs) ≡ sorted le (map f xs)
  map_sorted [] = refl
  map_sorted (x ∷ xs) = map_insert x (sorted by xs) ∙ ap (insert le (f x)) (map_sorted xs)
