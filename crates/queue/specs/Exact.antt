-- Orders of fields that tell all values apart, of which the law of an element is made, beside std's `exact_unsigned` and `exact_pairs`. Assumes nothing.
use Rattle.std.specs.Prelude.{true, false, refl}
use Rattle.std.proofs.Common.{ap, sym, true≢false}
use Rattle.std.specs.Ordering.{bool_cmp, is_eq}
use Rattle.queue.specs.Order.{IsExact}

-- two flags that compare as equal are one
pub exact_flags : IsExact bool_cmp
exact_flags true true h = refl
exact_flags true false h = absurd (true≢false (sym (ap is_eq h)))
exact_flags false true h = absurd (true≢false (sym (ap is_eq h)))
exact_flags false false h = refl
