-- What a table's checks find. Assumes nothing.
use Rattle.std.specs.Prelude.{◌≡◌, ℕ, ◌+◌, ◌<◌, ◌≤◌, false, List, ◌∷◌, ◌++◌, length, position, Some, None, nat_eq, slice_index_or}
use Rattle.semantics.specs.declared.row.Operation.{Operation}
use Rattle.semantics.specs.declared.row.Ended.{Ended}
use Rattle.semantics.specs.declared.verdict.Refusal.{Refusal}
use Rattle.semantics.specs.Calls.{perform, end}
use Rattle.semantics.specs.Lists.{first_of}
use Rattle.semantics.specs.Puts.{without}
use Rattle.semantics.specs.Refusals.{Test, stopped, no_thread, refusals}
use Rattle.semantics.specs.State.{State, thread_of, owed_as}
use Rattle.thread.specs.Performing.{epoch_in, without_epoch, Performs, Ends}

-- The row of a thread that there is, on a running watch.
pub record Known (s : State) (t row : ℕ) : Type 0 where
  pub is : row ≡ t
  pub below : row < 4
  pub known : t < length s.threads
  pub skips : (ts : List Test) → first_of (stopped s ++ (no_thread s t ∷ ts)) ≡ first_of ts

abbrev pub Unknown : State → ℕ → Refusal → Type 0
Unknown s t f = (ts : List Test) → first_of (stopped s ++ (no_thread s t ∷ ts)) ≡ Some f

-- A perform that is not refused: the rows of the thread and of the operation.
pub record MayPerform (s : State) (t n τ row : ℕ) (o : Operation) : Type 0 where
  pub free : first_of (refusals s (perform t n τ)) ≡ None
  pub thread : Known s t row
  pub performs : Performs (thread_of s row) n τ o

-- An end that is not refused: the rows of the thread and of the epoch. Without the epoch there is at least one fewer.
pub record MayEnd (s : State) (t p τ row i : ℕ) : Type 0 where
  pub free : first_of (refusals s (end t p 0 τ)) ≡ None
  pub thread : Known s t row
  pub ends : Ends (thread_of s row) p τ i
  pub place : (epoch_in (thread_of s row) i).place ≡ p
  pub fewer : length (without_epoch p τ (thread_of s row)).epochs + 1 ≤ length (thread_of s row).epochs
  pub room : length s.owed < 32

-- What stands past the rows of what is owed.
abbrev pub no_row : Ended
no_row = record { from = 0; number = 0; thread = 0; writes = false; place = 0; until = 0; start = 0; last = 0 }

abbrev pub owed_in : State → ℕ → Ended
owed_in s i = slice_index_or s.owed i no_row

-- The row of a notice that is owed. Without it there is at least one fewer.
pub record Owes (s : State) (n i : ℕ) : Type 0 where
  pub row : position (λ e. nat_eq e.number n) s.owed ≡ Some i
  pub found : owed_as s n ≡ Some (owed_in s i)
  pub within : i < length s.owed
  pub fewer : length (without n s.owed) + 1 ≤ length s.owed
