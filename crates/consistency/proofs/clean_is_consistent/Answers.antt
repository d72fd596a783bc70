use Rattle.consistency.proofs.Clean.{clean_is_consistent}
use Rattle.consistency.proofs.clean_is_consistent.Goals as goal

pub returns : goal.returns
returns c = clean_is_consistent
