-- The laws of classes and rules. Assumes nothing.
use Rattle.std.specs.Prelude.{◌≡◌, ℕ, ◌<◌, Bool, true, []}
use Rattle.ordering.specs.declared.class.Class.{Class}
use Rattle.ordering.specs.declared.named.NamedRule.{NamedRule}
use Rattle.ordering.specs.declared.named.NamedRule.TheVariants.{Sc, Tso, Pso, Rmo}
use Rattle.ordering.specs.Classes.{class_of, number_of}
use Rattle.ordering.specs.Named.{named_orders}
use Rattle.ordering.specs.Tables.{table_orders, table_of}

-- A number below 18 is the number of its class.
abbrev pub NumbersNameClasses : Type 0
NumbersNameClasses = (n : ℕ) → n < 18 → number_of (class_of n) ≡ n

-- A class has a number below 18, and is the class of that number: there are 18 classes.
abbrev pub ClassesHaveNumbers : Type 0
ClassesHaveNumbers = (c : Class) → (number_of c < 18) × (class_of (number_of c) ≡ c)

-- Every pair that the rule s orders is ordered by the rule r.
abbrev pub Includes : NamedRule → NamedRule → Type 0
Includes r s = (first second : Class) → named_orders s first second ≡ true → named_orders r first second ≡ true

-- sc orders what tso orders, tso what pso orders, pso what rmo orders.
abbrev pub NamedRulesNest : Type 0
NamedRulesNest = Includes Sc Tso × Includes Tso Pso × Includes Pso Rmo

-- The table without a byte orders every pair.
abbrev pub EmptyTableOrdersAll : Type 0
EmptyTableOrdersAll = (first second : Class) → table_orders [] first second ≡ true

-- The table of a set orders just the pairs of the set.
abbrev pub TablesWriteSets : Type 0
TablesWriteSets = (set : Class → Class → Bool) (first second : Class) → table_orders (table_of set) first second ≡ set first second

-- The table that writes out a named rule's set is that rule.
abbrev pub TablesWriteNamedRules : Type 0
TablesWriteNamedRules = (r : NamedRule) (first second : Class) → table_orders (table_of (named_orders r)) first second ≡ named_orders r first second
