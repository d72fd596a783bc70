use Rattle.consistency.proofs.Clean.{close_promises}
use Rattle.consistency.proofs.close_is_consistent.Goals as goal

pub returns : goal.returns
returns c = close_promises
