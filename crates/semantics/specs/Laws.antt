-- The laws of a perform and of an end, each with the conviction where it is broken. Assumes nothing.
use Rattle.std.specs.Prelude.{ℕ, Bool, false, cond, not, ◌&&◌, ◌||◌, List, [], ◌∷◌, Some, None, Option, ◌==◌, nat_lt}
use Rattle.std.specs.List.{find, filter}
use Rattle.std.specs.Option.{is_some}
use Rattle.ordering.specs.declared.class.Class.{Class}
use Rattle.semantics.specs.declared.row.Operation.{Operation}
use Rattle.semantics.specs.declared.row.Epoch.{Epoch}
use Rattle.semantics.specs.declared.verdict.Conviction.{Conviction}
use Rattle.semantics.specs.declared.verdict.Law.{Law}
use Rattle.semantics.specs.declared.verdict.Law.TheVariants.{SamePlace, Ordered, NoLeave, WrongValue, EndTooEarly, WrongEndValue}
use Rattle.semantics.specs.Classes.{reads, writes, touches, face, got, puts}
use Rattle.semantics.specs.Lists.{last_of, first_some}
use Rattle.semantics.specs.State.{Thread, epoch_at}

-- A rule, by the pairs that it orders.
abbrev pub Rule : Type 0
Rule = Class → Class → Bool

-- Whether an outstanding operation is ordered before another of its thread.
abbrev pub Precedes : Type 0
Precedes = Operation → Operation → Bool

-- A rule orders operations by their classes.
abbrev pub by_rule : Rule → Precedes
by_rule R x y = R (face x.class) (face y.class)

-- The outstanding operations of a thread that stand before the number n in program order.
abbrev pub earlier : Thread → ℕ → List Operation
earlier w n = filter (λ o. nat_lt o.number n) w.pending

-- The conviction of an operation against another, where there is one.
abbrev pub blame : Law → ℕ → ℕ → Option Operation → Option Conviction
blame l t n None = None
blame l t n (Some x) = Some (record { law = l; thread = t; number = n; other = x.number })

-- 21: what writes performs while an earlier operation on its place is outstanding. The oldest is named.
abbrev pub law21 : Thread → ℕ → Operation → Option Conviction
law21 w t o = cond (writes o.class) (blame SamePlace t o.number (find (λ x. touches x.class && x.place == o.place) (earlier w o.number))) None

-- 22: an operation performs while an earlier one that is ordered before it is outstanding. The oldest is named.
abbrev pub law22 : Precedes → Thread → ℕ → Operation → Option Conviction
law22 B w t o = blame Ordered t o.number (find (λ x. B x o) (earlier w o.number))

-- The last earlier outstanding store of its thread to the place of an operation.
abbrev pub forwarded : Thread → Operation → Option Operation
forwarded w o = last_of (filter (λ x. writes x.class && x.place == o.place) (earlier w o.number))

-- The value that an operation reads: from that store, failing that from the copy of its thread's open epoch there.
abbrev pub source_from : Option Operation → Option Epoch → Option ℕ
source_from (Some x) e = Some (puts x)
source_from None (Some e) = Some e.copy
source_from None None = None

abbrev pub source : Thread → Operation → Option ℕ
source w o = source_from (forwarded w o) (epoch_at w o.place)

-- Whether an open epoch, if there is one, gives leave to write.
abbrev pub may_write : Option Epoch → Bool
may_write None = false
may_write (Some e) = e.writes

-- An operation lacks leave: it writes with no open write epoch of its own, or reads and has no source.
abbrev pub lacks_leave : Thread → Operation → Bool
lacks_leave w o = (writes o.class && not (may_write (epoch_at w o.place))) || (reads o.class && not (is_some (source w o)))

-- 23: an operation performs without leave. Its place is named.
abbrev pub law23 : Thread → ℕ → Operation → Option Conviction
law23 w t o = cond (lacks_leave w o) (Some (record { law = NoLeave; thread = t; number = o.number; other = o.place })) None

-- The conviction where there is a source, and the value that was received differs from its value.
abbrev pub needs_value : ℕ → Operation → Option ℕ → Option Conviction
needs_value t o None = None
needs_value t o (Some v) = cond (v == got o) None (Some (record { law = WrongValue; thread = t; number = o.number; other = v }))

-- 24: what reads received another value than its source's. The right one is named.
abbrev pub law24 : Thread → ℕ → Operation → Option Conviction
law24 w t o = cond (reads o.class) (needs_value t o (source w o)) None

abbrev pub perform_laws : Precedes → Thread → ℕ → Operation → Option Conviction
perform_laws B w t o = first_some (law21 w t o ∷ law22 B w t o ∷ law23 w t o ∷ law24 w t o ∷ [])

-- 25: an epoch ends at or before its last use, which is named.
abbrev pub law25 : ℕ → Epoch → ℕ → Option Conviction
law25 t e τ = cond (nat_lt e.used τ) None (Some (record { law = EndTooEarly; thread = t; number = e.place; other = e.used }))

-- 26: an epoch ends with another value than its copy, which is named.
abbrev pub law26 : ℕ → Epoch → ℕ → Option Conviction
law26 t e v = cond (v == e.copy) None (Some (record { law = WrongEndValue; thread = t; number = e.place; other = e.copy }))

abbrev pub end_laws : ℕ → Epoch → ℕ → ℕ → Option Conviction
end_laws t e v τ = first_some (law25 t e τ ∷ law26 t e v ∷ [])
