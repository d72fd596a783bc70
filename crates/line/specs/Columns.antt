-- The six fields of an event's line. Assumes nothing.
use Rattle.std.specs.Prelude.{ℕ, List, [], ◌∷◌, Some, None, Option}
use Rattle.line.specs.declared.columns.Columns.{Columns}

-- Six fields, by their names.
pub record Six : Type 0 where
  pub event : List ℕ
  pub thread : List ℕ
  pub what : List ℕ
  pub place : List ℕ
  pub value : List ℕ
  pub time : List ℕ

-- The fields of a line, if there are just six.
abbrev pub six : List (List ℕ) → Option Six
six [] = None
six (n ∷ []) = None
six (n ∷ a ∷ []) = None
six (n ∷ a ∷ b ∷ []) = None
six (n ∷ a ∷ b ∷ c ∷ []) = None
six (n ∷ a ∷ b ∷ c ∷ d ∷ []) = None
six (n ∷ a ∷ b ∷ c ∷ d ∷ e ∷ []) = Some (record { event = n; thread = a; what = b; place = c; value = d; time = e })
six (n ∷ a ∷ b ∷ c ∷ d ∷ e ∷ f ∷ fs) = None

-- What the slices of a line hold.
abbrev pub texts : Columns → Six
texts f = record { event = f.event.now; thread = f.thread.now; what = f.what.now; place = f.place.now; value = f.value.now; time = f.time.now }
