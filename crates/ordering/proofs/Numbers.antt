-- Facts on the numbers of classes. Assumes nothing.
use Rattle.std.proofs.Common.{◌≡◌, ℕ, suc, ◌-◌, ◌≤◌, ap, arith, rules}
use Rattle.ordering.specs.declared.class.Class.TheVariants.{Barrier}
use Rattle.ordering.specs.Classes.{class_of, mask_of}
use Rattle.ordering.specs.Laws.{ClassesHaveNumbers, NumbersNameClasses}

-- A number from 2 on is that of a barrier.
pub class_barrier : (n : ℕ) → 2 ≤ n → class_of n ≡ Barrier (mask_of (n - 2))
class_barrier n l =
    let e : n ≡ suc (suc (n - 2)) = omega arith in
    ap class_of e

-- A number below 18 is the number of its class.
pub numbered_class : NumbersNameClasses
numbered_class = search rules

-- A class is the class of its number, which is below 18.
pub class_numbers : ClassesHaveNumbers
class_numbers = search rules
