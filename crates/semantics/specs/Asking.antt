-- What can be asked of a watch without changing it: the five accounts, and how many more operations of a thread may be outstanding. Assumes nothing.
use Rattle.std.specs.Prelude.{◌≡◌, ℕ, ◌+◌, ◌-◌, ◌≤◌, List, [], ◌∷◌, length}
use Rattle.semantics.specs.declared.counts.Counts.{Counts}
use Rattle.semantics.specs.Limits.{most_outstanding}
use Rattle.semantics.specs.State.{Thread, State}

-- How many epochs some threads have open.
abbrev pub open_in : List Thread → ℕ
open_in [] = 0
open_in (w ∷ ws) = length w.epochs + open_in ws

abbrev pub counts : State → Counts
counts s = record { «open» = open_in s.threads; owed = length s.owed; waiting = length s.waiting; judged = s.judged; dropped = s.dropped }

abbrev pub free_places : Thread → ℕ
free_places w = most_outstanding - length w.pending

-- The leeway of `spare`: it answers no more than the free places of the thread, and 0 only where none is free.
pub record WithinLeeway (w : Thread) (k : ℕ) : Type 0 where
  pub not_above : k ≤ free_places w
  pub none_only_if_none : k ≡ 0 → free_places w ≡ 0
