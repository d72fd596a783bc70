use Rattle.consistency.proofs.Verdicts.{convicted_never_clean}
use Rattle.consistency.proofs.convicted_never_clean.Goals as goal

pub returns : goal.returns
returns c = convicted_never_clean
