-- How many rows a sorted list has. Assumes nothing.
use Rattle.std.proofs.Common.{◌≡◌, ℕ, ◌≤◌, Bool, List, length, take, ◌∙◌}
use Rattle.std.proofs.lemmas.List.{length-take-le}
use Rattle.queue.specs.Order.{sorted}
use Rattle.queue.proofs.Sorts.{length_sorted}

pub length_sorted_take : {X : Type 0} (le : X → X → Bool) (n : ℕ) (xs : List X) → n ≤ length xs → length (sorted le (take n xs)) ≡ n
length_sorted_take le n xs l = length_sorted le (take n xs) ∙ length-take-le n xs l
