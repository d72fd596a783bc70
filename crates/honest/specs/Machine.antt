-- The memory machine: threads that commit and perform operations over one memory, and hold places to read or to write them. It knows of no watch. Assumes nothing.
use Rattle.std.specs.Prelude.{◌≡◌, ℕ, ◌+◌, ◌<◌, ◌≤◌, Bool, true, false, cond, ◌&&◌, List, [], ◌∷◌, ◌++◌, Some, None, Option, ◌==◌}
use Rattle.semantics.specs.declared.row.Operation.{Operation}
use Rattle.semantics.specs.Calls.{Call, commit, perform, begin, end}
use Rattle.semantics.specs.Classes.{reads, writes, touches, last_class, op_class, operation, got, puts}
use Rattle.semantics.specs.Laws.{Precedes}
use Rattle.semantics.specs.Limits.{last_place}

-- A thread's hold of a place: to write it or only to read it, since when, and when it was last used by a store or by a load from memory.
pub record Hold : Type 0 where
  pub writes : Bool
  pub since : ℕ
  pub used : ℕ

-- The memory by place; by thread, how many operations committed and which are pending, in program order; who holds what; the time of the last step.
pub record Machine : Type 0 where
  pub memory : ℕ → ℕ
  pub committed : ℕ → ℕ
  pub pending : ℕ → List Operation
  pub holds : ℕ → ℕ → Option Hold
  pub time : ℕ

-- A machine that starts with these values in its memory.
abbrev pub starting : (ℕ → ℕ) → Machine
starting values = record { memory = values; committed = λ t. 0; pending = λ t. []; holds = λ t p. None; time = 0 }

-- A function changed at one point, or at one pair.
abbrev pub put : {A : Type 0} → (ℕ → A) → ℕ → A → ℕ → A
put f i a j = cond (j == i) a (f j)

abbrev pub put_hold : (ℕ → ℕ → Option Hold) → ℕ → ℕ → Option Hold → ℕ → ℕ → Option Hold
put_hold f t p h u q = cond (q == p && u == t) h (f u q)

-- A thread has one operation more.
abbrev pub with_operation : Machine → ℕ → Operation → Machine
with_operation m t o = record { memory = m.memory; committed = put m.committed t (m.committed t + 1); pending = put m.pending t (m.pending t ++ (o ∷ [])); holds = m.holds; time = m.time }

-- A thread has these operations pending; a place has this value; a thread has this hold of a place, or none; it is this time.
abbrev pub with_pending : Machine → ℕ → List Operation → Machine
with_pending m t os = record { memory = m.memory; committed = m.committed; pending = put m.pending t os; holds = m.holds; time = m.time }

abbrev pub with_value : Machine → ℕ → ℕ → Machine
with_value m p v = record { memory = put m.memory p v; committed = m.committed; pending = m.pending; holds = m.holds; time = m.time }

abbrev pub with_hold : Machine → ℕ → ℕ → Option Hold → Machine
with_hold m t p h = record { memory = m.memory; committed = m.committed; pending = m.pending; holds = put_hold m.holds t p h; time = m.time }

abbrev pub at_time : Machine → ℕ → Machine
at_time m τ = record { memory = m.memory; committed = m.committed; pending = m.pending; holds = m.holds; time = τ }

-- A hold that is taken at a time, and one that is used at a time.
abbrev pub taken_at : Bool → ℕ → Hold
taken_at w τ = record { writes = w; since = τ; used = τ }

abbrev pub used_at : Hold → ℕ → Hold
used_at h τ = record { writes = h.writes; since = h.since; used = τ }

-- Every one of a list.
abbrev pub Every : {A : Type 0} → (A → Type 0) → List A → Type 0
Every P [] = Unit {0}
Every P (x ∷ xs) = P x × Every P xs

-- None of these operations is ordered before o.
abbrev pub Unordered : Precedes → List Operation → Operation → Type 0
Unordered B os o = Every (λ x. B x o ≡ false) os

-- None of these operations has the place of o.
abbrev pub Clear : List Operation → Operation → Type 0
Clear os o = Every (λ x. x.place ≡ o.place → touches x.class ≡ false) os

-- A store to the place; none of these is one.
abbrev pub StoresTo : ℕ → Operation → Type 0
StoresTo p x = (writes x.class ≡ true) × (x.place ≡ p)

abbrev pub NoStore : List Operation → ℕ → Type 0
NoStore os p = Every (λ x. StoresTo p x → ⊥) os

-- s is the last of these, which are in program order, that is a store to the place.
pub record LastStore (os : List Operation) (p : ℕ) (s : Operation) : Type 0 where
  pub front : List Operation
  pub back : List Operation
  pub among : os ≡ front ++ (s ∷ back)
  pub stores : StoresTo p s
  pub last : NoStore back p

-- Nobody holds the place; nobody holds it to write it.
abbrev pub Free : Machine → ℕ → Type 0
Free m p = (u : ℕ) → m.holds u p ≡ None

abbrev pub Unwritten : Machine → ℕ → Type 0
Unwritten m p = (u : ℕ) (h : Hold) → m.holds u p ≡ Some h → h.writes ≡ false

-- A step of thread t at the time τ: times never fall.
pub record Timed (n : ℕ) (m : Machine) (t τ : ℕ) : Type 0 where
  pub thread : t < n
  pub time : m.time ≤ τ

-- Thread t performs o, which is pending after `earlier`, none of which is ordered before it, and before `later`.
pub record Performs (B : Precedes) (n : ℕ) (m : Machine) (t τ : ℕ) (earlier : List Operation) (o : Operation) (later : List Operation) : Type 0 where
  pub thread : t < n
  pub time : m.time ≤ τ
  pub pending : m.pending t ≡ earlier ++ (o ∷ later)
  pub unordered : Unordered B earlier o

-- A step of the machine, under the call that writes it down.
pub data Step (B : Precedes) (n : ℕ) (m : Machine) : Call → Machine → Type 0 where
  -- A thread commits an operation; a load already has the value that it is going to get.
  commits : (t c p v : ℕ) → t < n → c ≤ last_class → (touches (op_class c) ≡ true → p ≤ last_place) →
      Step B n m (commit t c p v) (with_operation m t (operation (m.committed t) c p v))
  -- A barrier only has to be performed in order.
  performs_barrier : (t τ : ℕ) (earlier : List Operation) (o : Operation) (later : List Operation) → Performs B n m t τ earlier o later → touches o.class ≡ false →
      Step B n m (perform t o.number τ) (at_time (with_pending m t (earlier ++ later)) τ)
  -- A store needs no earlier pending operation at its place and a hold to write it, and writes the memory.
  performs_store : (t τ : ℕ) (earlier : List Operation) (o : Operation) (later : List Operation) (h : Hold) → Performs B n m t τ earlier o later → writes o.class ≡ true →
      Clear earlier o → m.holds t o.place ≡ Some h → h.writes ≡ true →
      Step B n m (perform t o.number τ) (at_time (with_hold (with_value (with_pending m t (earlier ++ later)) o.place (puts o)) t o.place (Some (used_at h τ))) τ)
  -- A load gets the value of its thread's last earlier pending store to its place, if there is one.
  performs_load_early : (t τ : ℕ) (earlier : List Operation) (o : Operation) (later : List Operation) (s : Operation) → Performs B n m t τ earlier o later → reads o.class ≡ true →
      LastStore earlier o.place s → puts s ≡ got o →
      Step B n m (perform t o.number τ) (at_time (with_pending m t (earlier ++ later)) τ)
  -- Otherwise it needs a hold of the place, and gets the memory's value.
  performs_load : (t τ : ℕ) (earlier : List Operation) (o : Operation) (later : List Operation) (h : Hold) → Performs B n m t τ earlier o later → reads o.class ≡ true →
      NoStore earlier o.place → m.holds t o.place ≡ Some h → m.memory o.place ≡ got o →
      Step B n m (perform t o.number τ) (at_time (with_hold (with_pending m t (earlier ++ later)) t o.place (Some (used_at h τ))) τ)
  -- A thread takes a place that it does not hold: to read it if nobody holds it to write it, to write it if nobody holds it.
  takes_to_read : (t p τ : ℕ) → Timed n m t τ → p ≤ last_place → m.holds t p ≡ None → Unwritten m p →
      Step B n m (begin t 0 p (m.memory p) τ) (at_time (with_hold m t p (Some (taken_at false τ))) τ)
  takes_to_write : (t p τ : ℕ) → Timed n m t τ → p ≤ last_place → Free m p →
      Step B n m (begin t 1 p (m.memory p) τ) (at_time (with_hold m t p (Some (taken_at true τ))) τ)
  -- It gives the place back, later than it took it and than it last used it.
  gives_back : (t p τ : ℕ) (h : Hold) → Timed n m t τ → p ≤ last_place → m.holds t p ≡ Some h → h.since < τ → h.used < τ →
      Step B n m (end t p (m.memory p) τ) (at_time (with_hold m t p None) τ)

-- Steps one after another, and the calls that write them down.
pub data Run (B : Precedes) (n : ℕ) : Machine → List Call → Machine → Type 0 where
  stays : {m : Machine} → Run B n m [] m
  goes : {m m' m'' : Machine} {c : Call} {cs : List Call} → Step B n m c m' → Run B n m' cs m'' → Run B n m (c ∷ cs) m''

-- Nothing is pending and nothing is held.
pub record AtRest (m : Machine) : Type 0 where
  pub done : (t : ℕ) → m.pending t ≡ []
  pub free : (t p : ℕ) → m.holds t p ≡ None
