-- A matrix that a test fills, read at a row and a column, says what the test says there. Assumes nothing.
use Rattle.std.proofs.Common.{◌≡◌, ℕ, ◌<◌, Bool, false, List, [], map, length, get_or, ap, ◌∙◌}
use Rattle.std.proofs.lemmas.List.{get_or-map}

-- The matrix of a test: a row for each element of one list, with a column for each of another.
abbrev pub matrix : {A B : Type 0} → (A → B → Bool) → List A → List B → List (List Bool)
matrix f rows columns = map (λ r. map (f r) columns) rows

-- What stands in the matrix at the places of a and b is the test of a and b.
pub matrix_at : {A B : Type 0} (f : A → B → Bool) (rows : List A) (columns : List B) (i j : ℕ) (a : A) (b : B) → i < length rows → j < length columns → get_or rows i a ≡ a → get_or columns j b ≡ b → get_or (get_or (matrix f rows columns) i []) j false ≡ f a b
matrix_at f rows columns i j a b row column at_row at_column =
    ap (λ r. get_or r j false) (get_or-map (λ r. map (f r) columns) rows i a [] row)
    ∙ get_or-map (f (get_or rows i a)) columns j b false column
    ∙ ap (λ r. f r (get_or columns j b)) at_row
    ∙ ap (f a) at_column
