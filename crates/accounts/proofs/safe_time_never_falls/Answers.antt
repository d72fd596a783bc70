use Rattle.accounts.proofs.NeverFalls.{safe_time_never_falls}
use Rattle.accounts.proofs.safe_time_never_falls.Goals as goal

pub returns : goal.returns
returns c = safe_time_never_falls
