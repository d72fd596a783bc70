use Rattle.semantics.proofs.Followed.{follows}
use Rattle.consistency.proofs.calls_are_followed.Goals as goal

pub returns : goal.returns
returns c = follows
