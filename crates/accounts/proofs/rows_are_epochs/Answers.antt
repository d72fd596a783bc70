use Rattle.accounts.proofs.Exact.{rows_are_epochs}
use Rattle.accounts.proofs.rows_are_epochs.Goals as goal

pub returns : goal.returns
returns c = rows_are_epochs
