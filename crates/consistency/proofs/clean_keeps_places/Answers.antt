use Rattle.consistency.proofs.Clean.{clean_keeps_places}
use Rattle.consistency.proofs.clean_keeps_places.Goals as goal

pub returns : goal.returns
returns c = clean_keeps_places
