use Rattle.honest.proofs.honest_is_clean.Goals as goal
use Rattle.honest.proofs.HonestIsClean.{honest_is_clean}

pub returns : goal.returns
returns c = honest_is_clean
