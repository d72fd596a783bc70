use Rattle.consistency.proofs.Verdicts.{one_clean_close}
use Rattle.consistency.proofs.one_clean_close.Goals as goal

pub returns : goal.returns
returns c = one_clean_close
