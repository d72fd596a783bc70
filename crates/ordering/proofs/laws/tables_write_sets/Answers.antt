-- The table of a set orders just the pairs of the set.
use Rattle.ordering.proofs.Tables.{written}
use Rattle.ordering.proofs.laws.tables_write_sets.Goals as goal

pub returns : goal.returns
returns c = written
