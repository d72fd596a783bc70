-- What holds of the rows of every table. Assumes nothing.
use Rattle.std.specs.Prelude.{◌≡◌, ◌+◌, ◌<◌, ◌≤◌, length}
use Rattle.semantics.specs.Asking.{open_in}
use Rattle.table.specs.declared.table.Table.TheInside.{Inside}

-- Open and ended epochs have begun; judged, dropped, owed and waiting ones have ended.
pub record IsSound (t : Inside) : Type 0 where
  pub some_threads : 0 < length t.threads.items
  pub homes_long : length t.homes ≡ 512
  pub begins_fit : t.begins ≤ 1000000
  pub ends_fit : open_in t.threads.items + t.ends ≤ t.begins
  pub accounts_fit : ((t.judged + t.dropped) + length t.owed.items) + length t.waiting ≤ t.ends
