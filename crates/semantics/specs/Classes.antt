-- What an operation of a class does, and how a rule sees it. Assumes nothing.
use Rattle.std.specs.Prelude.{ℕ, Bool, true, false, cond, ◌||◌}
use Rattle.ordering.specs.Classes.{class_of}
use Rattle.ordering.specs.declared.class.Class.{Class}
use Rattle.ordering.specs.declared.class.Class.TheVariants as rule
use Rattle.semantics.specs.declared.class.OpClass.{OpClass}
use Rattle.semantics.specs.declared.class.OpClass.TheVariants.{Load, Store, Barrier}
use Rattle.semantics.specs.declared.row.Operation.{Operation}

-- It receives a value.
abbrev pub reads : OpClass → Bool
reads Load = true
reads Store = false
reads (Barrier m) = false

-- It puts a value into its place.
abbrev pub writes : OpClass → Bool
writes Load = false
writes Store = true
writes (Barrier m) = false

-- It has a place; a barrier has none.
abbrev pub touches : OpClass → Bool
touches c = reads c || writes c

-- The class by which a rule orders it.
abbrev pub face : OpClass → Class
face Load = rule.Load
face Store = rule.Store
face (Barrier m) = rule.Barrier m

-- The class of an operation that a rule sees so.
abbrev pub of_face : Class → OpClass
of_face rule.Load = Load
of_face rule.Store = Store
of_face (rule.Barrier m) = Barrier m

-- The last number of a class.
abbrev pub last_class : ℕ
last_class = 17

-- The class that a commit names by its number.
abbrev pub op_class : ℕ → OpClass
op_class c = of_face (class_of c)

-- What a commit writes down. Of a barrier only the class counts: place and value stand as 0.
abbrev pub operation : (number class place value : ℕ) → Operation
operation n c p v = record { number = n; class = op_class c; place = cond (touches (op_class c)) p 0; value = cond (touches (op_class c)) v 0 }

-- The value that an operation received, where it reads.
abbrev pub got : Operation → ℕ
got o = o.value

-- The value that an operation puts, where it writes.
abbrev pub puts : Operation → ℕ
puts o = o.value
