-- The laws of an operation by what an attempt looks at: the outstanding operations and the open epochs. Assumes nothing.
use Rattle.std.specs.Prelude.{◌≡◌, ℕ, cond, not, ◌&&◌, ◌||◌, List, [], ◌∷◌, length, find, filter, is_some, Some, None, Option, MatchResult, Result, ◌==◌, nat_eq, nat_lt}
use Rattle.semantics.specs.declared.row.Operation.{Operation}
use Rattle.semantics.specs.declared.row.Epoch.{Epoch}
use Rattle.semantics.specs.declared.verdict.Conviction.{Conviction}
use Rattle.semantics.specs.declared.verdict.Law.TheVariants.{SamePlace, Ordered, NoLeave}
use Rattle.semantics.specs.Classes.{reads, writes, touches}
use Rattle.semantics.specs.Effect.{touch, load_answer}
use Rattle.semantics.specs.Laws.{Precedes, blame, source_from, may_write, needs_value}
use Rattle.semantics.specs.Lists.{last_of, first_some, change}
use Rattle.thread.specs.declared.attempt.Attempt.{Attempt}
use Rattle.thread.specs.declared.served.Served.{Served}
use Rattle.thread.specs.Performing.{performed_number, used_at, Within, ServesBy}

-- 21, of the operation o of thread t.
abbrev pub place_law : List Operation → ℕ → Operation → Option Conviction
place_law os t o = cond (writes o.class) (blame SamePlace t o.number (find (λ x. touches x.class && x.place == o.place) os)) None

-- 22.
abbrev pub order_law : Precedes → List Operation → ℕ → Operation → Option Conviction
order_law B os t o = blame Ordered t o.number (find (λ x. B x o) os)

-- The last earlier operation that writes the place.
abbrev pub last_writer : List Operation → Operation → Option Operation
last_writer os o = last_of (filter (λ x. writes x.class && x.place == o.place) os)

-- The open epoch of the place.
abbrev pub epoch_of : List Epoch → Operation → Option Epoch
epoch_of es o = find (λ e. nat_eq e.place o.place) es

-- 23, by the last earlier writer and the open epoch of the place.
abbrev pub grant_by : ℕ → Operation → Option Operation → Option Epoch → Option Conviction
grant_by t o f e = cond ((writes o.class && not (may_write e)) || (reads o.class && not (is_some (source_from f e)))) (Some (record { law = NoLeave; thread = t; number = o.number; other = o.place })) None

-- 24, by the same.
abbrev pub value_by : ℕ → Operation → Option Operation → Option Epoch → Option Conviction
value_by t o f e = cond (reads o.class) (needs_value t o (source_from f e)) None

-- 23 and 24.
abbrev pub leave_law : List Operation → List Epoch → ℕ → Operation → Option Conviction
leave_law os es t o = first_some (grant_by t o (last_writer os o) (epoch_of es o) ∷ value_by t o (last_writer os o) (epoch_of es o) ∷ [])

-- 21 to 24.
abbrev pub laws_by : Precedes → List Operation → List Epoch → ℕ → Operation → Option Conviction
laws_by B os es t o =
    first_some (place_law os t o ∷ order_law B os t o ∷ grant_by t o (last_writer os o) (epoch_of es o) ∷ value_by t o (last_writer os o) (epoch_of es o) ∷ [])

-- The value that a load is given, and where it came from, by the last earlier writer.
pub record SourcedBy (f : Option Operation) (es : List Epoch) (o : Operation) (v : ℕ) (s : Served) : Type 0 where
  pub value : source_from f (epoch_of es o) ≡ Some v
  pub answer : performed_number s.answer ≡ load_answer f
  pub uses : (τ : ℕ) → cond (not (is_some f)) (change (λ e. nat_eq e.place o.place) (touch τ o) es) es ≡ used_at τ o s.uses es
  pub within : Within s.uses (length es)

-- The outstanding operations before that of an attempt in program order.
abbrev pub earlier_of : Attempt → List Operation
earlier_of a = filter (λ o. nat_lt o.number a.op.number) a.outstanding.now

-- The laws of an attempt.
abbrev pub place_law_of : Attempt → Option Conviction
place_law_of a = place_law (earlier_of a) a.thread a.op

abbrev pub order_law_of : Precedes → Attempt → Option Conviction
order_law_of B a = order_law B (earlier_of a) a.thread a.op

abbrev pub leave_law_of : Attempt → Option Conviction
leave_law_of a = leave_law (earlier_of a) a.epochs.now a.thread a.op

abbrev pub laws_of : Precedes → Attempt → Option Conviction
laws_of B a = laws_by B (earlier_of a) a.epochs.now a.thread a.op

abbrev pub source_of : Attempt → Option ℕ
source_of a = source_from (last_writer (earlier_of a) a.op) (epoch_of a.epochs.now a.op)

-- By some laws, an attempt serves the operation or breaks one of them.
abbrev pub Serving : Attempt → Option Conviction → Result Served Conviction → Type 0
Serving a law r = MatchResult r (λ s. (law ≡ None) × ServesBy (last_writer (earlier_of a) a.op) a.epochs.now a.op s) (λ c. law ≡ Some c)
