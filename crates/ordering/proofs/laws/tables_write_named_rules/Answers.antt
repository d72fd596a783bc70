-- The table of a named rule's set is that rule: a named rule's set is a set.
use Rattle.ordering.specs.Named.{named_orders}
use Rattle.ordering.proofs.Tables.{written}
use Rattle.ordering.proofs.laws.tables_write_named_rules.Goals as goal

pub returns : goal.returns
returns c r first second = written (named_orders r) first second
