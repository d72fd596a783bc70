use Rattle.accounts.proofs.Exact.{accounts_are_exact}
use Rattle.accounts.proofs.accounts_are_exact.Goals as goal

pub returns : goal.returns
returns c = accounts_are_exact
