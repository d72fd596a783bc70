use Rattle.std.proofs.Common.{refl}
use Rattle.accounts.specs.Examples.{overlapping, one_by_one, all_at_once}
use Rattle.semantics.proofs.Followed.{follows}
use Rattle.accounts.proofs.examples_stand.Goals as goal

pub returns : goal.returns
returns c = (
  record { met = λ R. follows R 2 overlapping; accounts = λ R. refl; order = λ R. refl },
  record { met = λ R. follows R 2 one_by_one; accounts = λ R. refl; order = λ R. refl },
  record { met = λ R. follows R 2 all_at_once; accounts = λ R. refl; order = λ R. refl },
)
