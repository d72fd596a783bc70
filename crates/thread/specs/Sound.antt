-- What holds of the row of every thread. Assumes nothing.
use Rattle.std.specs.Prelude.{ℕ, ◌≤◌}
use Rattle.std.specs.List.{All}
use Rattle.semantics.specs.declared.row.Epoch.{Epoch}
use Rattle.thread.specs.declared.row.ThreadRow.TheInside.{Inside}

-- An open epoch began neither after its last use nor after the clock.
pub record IsBegun (clock : ℕ) (e : Epoch) : Type 0 where
  pub before_use : e.from ≤ e.used
  pub before_clock : e.from ≤ clock

-- The commits are within their limit, and each open epoch is begun.
pub record IsSound (w : Inside) : Type 0 where
  pub commits_fit : w.commits ≤ 1000000
  pub epochs_begun : All (IsBegun w.clock) w.epochs
