use Rattle.consistency.proofs.Clean.{clean_performs_all}
use Rattle.consistency.proofs.clean_performs_all.Goals as goal

pub returns : goal.returns
returns c = clean_performs_all
