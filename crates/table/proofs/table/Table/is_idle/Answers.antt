use Rattle.std.proofs.Common.{rules}
use Rattle.table.proofs.Threads.{busy_is}
use Rattle.table.proofs.table.Table.is_idle.Goals as goal

pub returns-then-are_idle : goal.returns-then-are_idle
returns-then-are_idle c = rw (← c.self.view_is, c.is_empty.ensures, ← busy_is (Rattle.table.specs.contracts.table.Table.the_view c.self.inside)) (search rules)

pub returns-else-are_idle : goal.returns-else-are_idle
returns-else-are_idle c = rw (← c.self.view_is, ← busy_is (Rattle.table.specs.contracts.table.Table.the_view c.self.inside)) (search rules)
