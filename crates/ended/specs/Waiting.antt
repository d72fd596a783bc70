-- What holds of the rows of the waiting epochs. Assumes nothing.
use Rattle.std.specs.Prelude.{◌≡◌, ◌≤◌, length}
use Rattle.queue.specs.Order.{Heap, le_by}
use Rattle.thread.specs.declared.limits.TheConstants.{MOST_WAITING}
use Rattle.ended.specs.Order.{ended_cmp}
use Rattle.ended.specs.declared.waiting.Waiting.TheInside.{Inside}

-- The first `count` rows are a heap in the order of judging.
pub record IsHeaped (w : Inside) : Type 0 where
  pub long : length w.rows ≡ MOST_WAITING
  pub fits : w.count ≤ MOST_WAITING
  pub heaped : Heap (le_by ended_cmp) w.rows w.count
