-- How a rule orders the positions of a program. Assumes nothing.
use Rattle.std.proofs.Common.{◌≡◌, ℕ, ◌<◌, List, [], ◌∷◌, ◌++◌, length, get_or, ap, ◌∙◌}
use lib.ListN.{get_or-append}
use Rattle.semantics.specs.declared.row.Operation.{Operation}
use Rattle.semantics.specs.Classes.{face}
use Rattle.semantics.specs.Laws.{Rule, by_rule}
use Rattle.consistency.specs.Performed.{nothing}
use Rattle.consistency.specs.Consistent.{orders_at}

-- Two operations that stand at their numbers are ordered as the rule orders their rows.
pub ordered_as_rows : (R : Rule) (prog : List Operation) (x y : Operation) → get_or prog x.number nothing ≡ x → get_or prog y.number nothing ≡ y → orders_at R prog x.number y.number ≡ by_rule R x y
ordered_as_rows R prog x y p q = ap (λ (z : Operation). R (face z.class) (face (get_or prog y.number nothing).class)) p ∙ ap (λ (z : Operation). R (face x.class) (face z.class)) q

-- Committing one more leaves the order of the earlier positions as it was.
pub order_stays : (R : Rule) (prog : List Operation) (o : Operation) (m n : ℕ) → m < length prog → n < length prog → orders_at R (prog ++ (o ∷ [])) m n ≡ orders_at R prog m n
order_stays R prog o m n p q =
    ap (λ (z : Operation). R (face z.class) (face (get_or (prog ++ (o ∷ [])) n nothing).class)) (get_or-append prog (o ∷ []) nothing m p)
    ∙ ap (λ (z : Operation). R (face (get_or prog m nothing).class) (face z.class)) (get_or-append prog (o ∷ []) nothing n q)
