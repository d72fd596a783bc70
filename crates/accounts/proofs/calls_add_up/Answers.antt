use Rattle.accounts.proofs.Exact.{calls_add_up}
use Rattle.accounts.proofs.calls_add_up.Goals as goal

pub returns : goal.returns
returns c = calls_add_up
