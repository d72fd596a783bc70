use Rattle.honest.proofs.taken_is_within.Goals as goal
use Rattle.honest.proofs.TakenIsWithin.{taken_is_within}

pub returns : goal.returns
returns c = taken_is_within
