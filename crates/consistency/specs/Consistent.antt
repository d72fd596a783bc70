-- When the operations that a trace performed are consistent under a rule. Assumes nothing.
use Rattle.std.specs.Prelude.{◌≡◌, ℕ, ◌<◌, Bool, true, ◌⊎◌, List, length, get_or, slice_index_or}
use Rattle.semantics.specs.declared.row.Operation.{Operation}
use Rattle.semantics.specs.Classes.{reads, writes, touches, face, got, puts}
use Rattle.semantics.specs.Laws.{Rule}
use Rattle.semantics.specs.Trace.{Trace, starting}
use Rattle.consistency.specs.Performed.{Performed, nothing, program, performs, at, Before, ProgramBefore}

-- Whether the rule orders the operation at m of a program before the one at n.
abbrev pub orders_at : Rule → List Operation → ℕ → ℕ → Bool
orders_at R prog m n = R (face (get_or prog m nothing).class) (face (get_or prog n nothing).class)

-- What writes to the place of the load, and stands before it in the order or in program order.
pub record Visible (ops : List Performed) (load store : ℕ) : Type 0 where
  pub performed : store < length ops
  pub stores : writes (at ops store).op.class ≡ true
  pub same : (at ops store).op.place ≡ (at ops load).op.place
  pub seen : Before ops store load ⊎ ProgramBefore ops store load

-- The load received the value of the visible store that is latest in the order.
pub record ReadsStore (ops : List Performed) (load : ℕ) : Type 0 where
  pub store : ℕ
  pub visible : Visible ops load store
  pub latest : (other : ℕ) → Visible ops load other → (other ≡ store) ⊎ Before ops other store
  pub value : got (at ops load).op ≡ puts (at ops store).op

-- No store is visible to the load, and it received the starting value of its place.
pub record ReadsStart (ops : List Performed) (start : ℕ → ℕ) (load : ℕ) : Type 0 where
  pub none_visible : (store : ℕ) → Visible ops load store → ⊥
  pub value : got (at ops load).op ≡ start (at ops load).op.place

-- The order keeps what the rule orders, and each load received what the order says.
pub record ConsistentOps (R : Rule) (prog : ℕ → List Operation) (ops : List Performed) (start : ℕ → ℕ) : Type 0 where
  pub kept : (i j : ℕ) → i < length ops → j < length ops → ProgramBefore ops i j
      → orders_at R (prog (at ops i).thread) (at ops i).op.number (at ops j).op.number ≡ true → Before ops i j
  pub loads : (i : ℕ) → i < length ops → reads (at ops i).op.class ≡ true → ReadsStore ops i ⊎ ReadsStart ops start i

abbrev pub Consistent : Rule → Trace → Type 0
Consistent R tr = ConsistentOps R (λ t. program t tr) (performs tr) (starting tr)

-- The operation of number m of a thread with this program is among those that performed, once.
pub record PerformedOnce (prog : List Operation) (ops : List Performed) (t m : ℕ) : Type 0 where
  pub index : ℕ
  pub performed : index < length ops
  pub thread : (at ops index).thread ≡ t
  pub number : (at ops index).op.number ≡ m
  pub committed : (at ops index).op ≡ slice_index_or prog m nothing
  pub only : (other : ℕ) → other < length ops → (at ops other).thread ≡ t → (at ops other).op.number ≡ m → other ≡ index

-- Every operation that a thread committed has performed, once.
abbrev pub AllPerformed : Trace → Type 0
AllPerformed tr = (t m : ℕ) → m < length (program t tr) → PerformedOnce (program t tr) (performs tr) t m

-- What writes comes after what its thread did to its place earlier in program order.
abbrev pub KeepsPlaces : List Performed → Type 0
KeepsPlaces ops = (i j : ℕ) → i < length ops → j < length ops → ProgramBefore ops i j → (at ops i).op.place ≡ (at ops j).op.place
    → touches (at ops i).op.class ≡ true → writes (at ops j).op.class ≡ true → Before ops i j

-- What writes to the place of the load and stands before it in the order.
pub record StoredBefore (ops : List Performed) (load store : ℕ) : Type 0 where
  pub performed : store < length ops
  pub stores : writes (at ops store).op.class ≡ true
  pub same : (at ops store).op.place ≡ (at ops load).op.place
  pub before : Before ops store load

-- The load received the value of the latest store before it in the order.
pub record HasLatest (ops : List Performed) (load : ℕ) : Type 0 where
  pub store : ℕ
  pub stored : StoredBefore ops load store
  pub latest : (other : ℕ) → StoredBefore ops load other → (other ≡ store) ⊎ Before ops other store
  pub value : got (at ops load).op ≡ puts (at ops store).op

-- No store stands before the load in the order, and it received the starting value of its place.
pub record HasStart (ops : List Performed) (start : ℕ → ℕ) (load : ℕ) : Type 0 where
  pub none_stored : (store : ℕ) → StoredBefore ops load store → ⊥
  pub value : got (at ops load).op ≡ start (at ops load).op.place

-- Each load that read the copy, which its perform tells by the answer 2, has the value of the latest store before it in the order.
abbrev pub CopiesAreLatest : List Performed → (ℕ → ℕ) → Type 0
CopiesAreLatest ops start = (i : ℕ) → i < length ops → reads (at ops i).op.class ≡ true → (at ops i).answer ≡ 2 → HasLatest ops i ⊎ HasStart ops start i
