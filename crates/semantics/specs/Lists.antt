-- Lists by tests: what stands first, last, or passes. Assumes nothing.
use Rattle.std.specs.Prelude.{ℕ, min, Bool, cond, List, [], ◌∷◌, Some, None, Option}
use Rattle.std.specs.List.{fold}

abbrev pub last_of : {A : Type 0} → List A → Option A
last_of [] = None
last_of (x ∷ xs) = elim (last_of xs) [ None ↦ Some x | Some y ↦ Some y ]

-- The list with the first that passes changed.
abbrev pub change : {A : Type 0} → (A → Bool) → (A → A) → List A → List A
change p f [] = []
change p f (x ∷ xs) = cond (p x) (f x ∷ xs) (x ∷ change p f xs)

-- Of some tests in order, what the first that holds tells.
abbrev pub first_of : {A : Type 0} → List (Bool × A) → Option A
first_of [] = None
first_of (t ∷ ts) = cond t.0 (Some t.1) (first_of ts)

-- The first that there is.
abbrev pub first_some : {A : Type 0} → List (Option A) → Option A
first_some [] = None
first_some (o ∷ os) = elim o [ None ↦ first_some os | Some x ↦ Some x ]

-- The least of a list, and 0 of an empty one.
abbrev pub least_of : List ℕ → ℕ
least_of [] = 0
least_of (x ∷ xs) = fold min x xs
