-- What a watch holds. Assumes nothing.
use Rattle.std.specs.Prelude.{ℕ, ◌+◌, false, List, [], ◌∷◌, length, replicate, Option, nat_eq, slice_index_or}
use Rattle.std.specs.List.{find}
use Rattle.semantics.specs.declared.row.Operation.{Operation}
use Rattle.semantics.specs.declared.row.Epoch.{Epoch}
use Rattle.semantics.specs.declared.row.Ended.{Ended}
use Rattle.semantics.specs.declared.row.Home.{Home}
use Rattle.semantics.specs.declared.verdict.Verdict.{Verdict}
use Rattle.semantics.specs.declared.verdict.Verdict.TheVariants.{Running}
use Rattle.semantics.specs.Limits.{places}

-- A thread: its clock, how many operations it committed, those outstanding in program order, and its open epochs.
pub record Thread : Type 0 where
  pub clock : ℕ
  pub commits : ℕ
  pub pending : List Operation
  pub epochs : List Epoch

-- The waiting stand in the order in which they are judged. `begins` to `dropped` count epochs: begun, ended, judged, dropped.
pub record State : Type 0 where
  pub threads : List Thread
  pub homes : List Home
  pub owed : List Ended
  pub waiting : List Ended
  pub begins : ℕ
  pub ends : ℕ
  pub judged : ℕ
  pub dropped : ℕ
  pub verdict : Verdict

abbrev pub idle : Thread
idle = record { clock = 0; commits = 0; pending = []; epochs = [] }

-- A place of which nothing is known.
abbrev pub unused : Home
unused = record { value = 0; read_end = 0; write_end = 0; begun = false }

-- A new watch of n threads.
abbrev pub made : ℕ → State
made n = record { threads = replicate n idle; homes = replicate places unused; owed = []; waiting = []; begins = 0; ends = 0; judged = 0; dropped = 0; verdict = Running }

abbrev pub thread_of : State → ℕ → Thread
thread_of s t = slice_index_or s.threads t idle

abbrev pub home_of : State → ℕ → Home
home_of s p = slice_index_or s.homes p unused

-- The operation of a thread that is outstanding under a number.
abbrev pub outstanding_as : Thread → ℕ → Option Operation
outstanding_as w n = find (λ o. nat_eq o.number n) w.pending

-- The epoch of a place that a thread has open.
abbrev pub epoch_at : Thread → ℕ → Option Epoch
epoch_at w p = find (λ e. nat_eq e.place p) w.epochs

-- The epoch that is owed under a number.
abbrev pub owed_as : State → ℕ → Option Ended
owed_as s n = find (λ e. nat_eq e.number n) s.owed

-- How much is outstanding or open in some threads.
abbrev pub busy_threads : List Thread → ℕ
busy_threads [] = 0
busy_threads (w ∷ ws) = (length w.pending + length w.epochs) + busy_threads ws

-- How much is outstanding, open or owed.
abbrev pub busy : State → ℕ
busy s = busy_threads s.threads + length s.owed
