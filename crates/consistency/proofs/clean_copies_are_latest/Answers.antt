use Rattle.consistency.proofs.Clean.{clean_copies_are_latest}
use Rattle.consistency.proofs.clean_copies_are_latest.Goals as goal

pub returns : goal.returns
returns c = clean_copies_are_latest
