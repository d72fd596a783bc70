-- What the threads of a watch committed and performed, and in which order, by its trace alone. Assumes nothing.
use Rattle.std.specs.Prelude.{◌≡◌, ℕ, ◌<◌, cond, ◌⊎◌, List, [], ◌∷◌, ◌++◌, length, ◌==◌, slice_index_or}
use Rattle.semantics.specs.declared.class.OpClass.TheVariants.{Load}
use Rattle.semantics.specs.declared.row.Operation.{Operation}
use Rattle.semantics.specs.Calls.{Call, preset, commit, perform, advance, begin, end, report, drop, settle, close, Answer, taken, refused, convicted}
use Rattle.semantics.specs.Calls
use Rattle.semantics.specs.Classes.{operation}
use Rattle.semantics.specs.Trace.{Trace, if_taken}

-- A thread's program after one more taken call. Operations are numbered from 0 as they commit.
abbrev pub committed_by : Call → ℕ → List Operation → List Operation
committed_by (preset p v) t prog = prog
committed_by (commit u c p v) t prog = cond (t == u) (prog ++ (operation (length prog) c p v ∷ [])) prog
committed_by (perform u n τ) t prog = prog
committed_by (advance u τ) t prog = prog
committed_by (begin u k p v τ) t prog = prog
committed_by (end u p v τ) t prog = prog
committed_by (report n) t prog = prog
committed_by (drop n) t prog = prog
committed_by settle t prog = prog
committed_by close t prog = prog

-- A thread's operations in program order: the operation of number n stands at n.
abbrev pub program : ℕ → Trace → List Operation
program t [] = []
program t (e ∷ tr) = if_taken e.answer (committed_by e.call t (program t tr)) (program t tr)

-- An operation that performed: whose, which, when, and with which answer.
pub record Performed : Type 0 where
  pub thread : ℕ
  pub op : Operation
  pub time : ℕ
  pub answer : ℕ

-- What stands past the end of a program, and past the last that performed.
abbrev pub nothing : Operation
nothing = record { number = 0; class = Load; place = 0; value = 0 }

abbrev pub none : Performed
none = record { thread = 0; op = nothing; time = 0; answer = 0 }

-- The number that a taken call answered.
abbrev pub number_in : Answer → ℕ
number_in (taken k) = k
number_in Calls.clean = 0
number_in (refused r) = 0
number_in (convicted c) = 0

-- What performed after one more taken call that answered k.
abbrev pub performed_by : Call → ℕ → (ℕ → List Operation) → List Performed → List Performed
performed_by (preset p v) k prog ops = ops
performed_by (commit t c p v) k prog ops = ops
performed_by (perform t n τ) k prog ops = ops ++ (record { thread = t; op = slice_index_or (prog t) n nothing; time = τ; answer = k } ∷ [])
performed_by (advance t τ) k prog ops = ops
performed_by (begin t d p v τ) k prog ops = ops
performed_by (end t p v τ) k prog ops = ops
performed_by (report n) k prog ops = ops
performed_by (drop n) k prog ops = ops
performed_by settle k prog ops = ops
performed_by close k prog ops = ops

-- The operations that performed, in the order in which they did.
abbrev pub performs : Trace → List Performed
performs [] = []
performs (e ∷ tr) = if_taken e.answer (performed_by e.call (number_in e.answer) (λ t. program t tr) (performs tr)) (performs tr)

-- The i-th that performed.
abbrev pub at : List Performed → ℕ → Performed
at ops i = slice_index_or ops i none

-- The order, of the i-th that performed, x, and the j-th, y: by time, then by thread, then by the order of performing.
abbrev pub Earlier : ℕ → Performed → ℕ → Performed → Type 0
Earlier i x j y = (x.time < y.time) ⊎ ((x.time ≡ y.time) × ((x.thread < y.thread) ⊎ ((x.thread ≡ y.thread) × (i < j))))

abbrev pub Before : List Performed → ℕ → ℕ → Type 0
Before ops i j = Earlier i (at ops i) j (at ops j)

-- Program order: both are of one thread, and the i-th committed first.
abbrev pub ProgramBefore : List Performed → ℕ → ℕ → Type 0
ProgramBefore ops i j = ((at ops i).thread ≡ (at ops j).thread) × ((at ops i).op.number < (at ops j).op.number)

-- The order is a strict total order.
pub record TotalOrder (ops : List Performed) : Type 0 where
  pub never_itself : (i : ℕ) → Before ops i i → ⊥
  pub chains : (i j k : ℕ) → Before ops i j → Before ops j k → Before ops i k
  pub compares : (i j : ℕ) → (i ≡ j) ⊎ (Before ops i j ⊎ Before ops j i)
