-- How many of a list pass a test, and what holds of all of them. Assumes nothing.
use Rattle.std.specs.Prelude.{◌≡◌, ℕ, zero, suc, ◌+◌, Bool, true, false, List, [], ◌∷◌, ◌++◌, ◌≢◌, nat_lt}

abbrev pub one_if : Bool → ℕ
one_if true = 1
one_if false = 0

-- How many pass a test.
abbrev pub count : {A : Type 0} → (A → Bool) → List A → ℕ
count p [] = 0
count p (x ∷ xs) = one_if (p x) + count p xs

abbrev pub there_is : {A : Type 0} → (A → Bool) → List A → Bool
there_is p xs = nat_lt 0 (count p xs)

abbrev pub All : {A : Type 0} → (A → Type 0) → List A → Type 0
All P [] = Unit {0}
All P (x ∷ xs) = P x × All P xs

-- Each stands before all that come after it.
abbrev pub InOrder : {A : Type 0} → (A → A → Bool) → List A → Type 0
InOrder lt [] = Unit {0}
InOrder lt (x ∷ xs) = All (λ y. lt x y ≡ true) xs × InOrder lt xs

-- The list has x, and has it once.
pub record Once {A : Type 0} (x : A) (xs : List A) : Type 0 where
  pub front : List A
  pub back : List A
  pub here : xs ≡ front ++ (x ∷ back)
  pub nowhere_else : All (λ y. y ≢ x) (front ++ back)

-- The numbers below n, from 0 on.
abbrev pub below : ℕ → List ℕ
below zero = []
below (suc n) = below n ++ (n ∷ [])
