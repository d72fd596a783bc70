-- The numbers of the classes. Assumes nothing.
use Rattle.std.specs.Prelude.{ℕ, zero, suc, ◌+◌, ◌/◌, ◌%◌, Bool, cond, Some, None, Option, ◌==◌, nat_lt}
use Rattle.ordering.specs.declared.class.Class.{Class}
use Rattle.ordering.specs.declared.class.Class.TheVariants.{Load, Store, Barrier}
use Rattle.ordering.specs.declared.class.Mask.{Mask}

-- Whether the number m has the bit of weight k.
abbrev pub bit : ℕ → ℕ → Bool
bit m k = (m / k) % 2 == 1

-- The barrier's mask of a number: 1 load-load, 2 store-load, 4 load-store, 8 store-store.
abbrev pub mask_of : ℕ → Mask
mask_of m = record { load_load = bit m 1; store_load = bit m 2; load_store = bit m 4; store_store = bit m 8 }

-- The class of a number: 0 a load, 1 a store, 2 + m the barrier of mask m. Only numbers up to 17 are in use.
abbrev pub class_of : ℕ → Class
class_of zero = Load
class_of (suc zero) = Store
class_of (suc (suc m)) = Barrier (mask_of m)

-- The class of a number, or none where the number is above 17.
abbrev pub known_class : ℕ → Option Class
known_class n = cond (nat_lt 17 n) None (Some (class_of n))

-- The number of a mask: the sum of what its pairs add.
abbrev pub mask_number : Mask → ℕ
mask_number m = cond m.load_load 1 0 + cond m.store_load 2 0 + cond m.load_store 4 0 + cond m.store_store 8 0

-- The number of a class.
abbrev pub number_of : Class → ℕ
number_of Load = 0
number_of Store = 1
number_of (Barrier m) = 2 + mask_number m
