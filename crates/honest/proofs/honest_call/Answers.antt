use Rattle.honest.proofs.honest_call.Goals as goal
use Rattle.honest.proofs.AtOneCall.{honest_call}

pub returns : goal.returns
returns c = honest_call
