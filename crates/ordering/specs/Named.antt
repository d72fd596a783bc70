-- The sets of the four named rules. Assumes nothing.
use Rattle.std.specs.Prelude.{Bool, true, false, not, ◌&&◌, ◌||◌}
use Rattle.ordering.specs.declared.class.Class.{Class}
use Rattle.ordering.specs.declared.class.Class.TheVariants.{Load, Store, Barrier}
use Rattle.ordering.specs.declared.class.Mask.{Mask}
use Rattle.ordering.specs.declared.named.NamedRule.{NamedRule}
use Rattle.ordering.specs.declared.named.NamedRule.TheVariants.{Sc, Tso, Pso, Rmo}
use Rattle.ordering.specs.declared.named.Pair.{Pair}
use Rattle.ordering.specs.declared.named.Pair.TheVariants.{LoadLoad, StoreLoad, LoadStore, StoreStore}

-- Whether a pair has a load first.
abbrev pub load_first : Pair → Bool
load_first LoadLoad = true
load_first StoreLoad = false
load_first LoadStore = true
load_first StoreStore = false

-- Whether a pair has a load second.
abbrev pub load_second : Pair → Bool
load_second LoadLoad = true
load_second StoreLoad = true
load_second LoadStore = false
load_second StoreStore = false

-- Whether a pair is a store before a load.
abbrev pub store_before_load : Pair → Bool
store_before_load p = not (load_first p) && load_second p

-- Loads and stores among themselves: sc keeps every pair in order, tso gives up a store before a load,
-- pso keeps only the pairs that a load starts, and rmo keeps none.
abbrev pub orders_pair : NamedRule → Pair → Bool
orders_pair Sc p = true
orders_pair Tso p = not (store_before_load p)
orders_pair Pso p = load_first p
orders_pair Rmo p = false

-- Whether a mask has a pair that starts with a load.
abbrev pub starts_with_load : Mask → Bool
starts_with_load m = m.load_load || m.load_store

-- Whether a mask has a pair that starts with a store.
abbrev pub starts_with_store : Mask → Bool
starts_with_store m = m.store_load || m.store_store

-- Whether a mask has a pair that ends with a load.
abbrev pub ends_with_load : Mask → Bool
ends_with_load m = m.load_load || m.store_load

-- Whether a mask has a pair that ends with a store.
abbrev pub ends_with_store : Mask → Bool
ends_with_store m = m.load_store || m.store_store

-- The set of a named rule. Next to a barrier its mask decides: what stands before it has to start a pair of the mask,
-- and what stands after it has to end one. Barriers go free among themselves.
abbrev pub named_orders : NamedRule → Class → Class → Bool
named_orders r Load Load = orders_pair r LoadLoad
named_orders r Load Store = orders_pair r LoadStore
named_orders r Load (Barrier m) = starts_with_load m
named_orders r Store Load = orders_pair r StoreLoad
named_orders r Store Store = orders_pair r StoreStore
named_orders r Store (Barrier m) = starts_with_store m
named_orders r (Barrier m) Load = ends_with_load m
named_orders r (Barrier m) Store = ends_with_store m
named_orders r (Barrier m) (Barrier n) = false
