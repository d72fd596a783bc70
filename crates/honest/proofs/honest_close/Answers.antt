use Rattle.honest.proofs.honest_close.Goals as goal
use Rattle.honest.proofs.AtOneCall.{honest_close}

pub returns : goal.returns
returns c = honest_close
