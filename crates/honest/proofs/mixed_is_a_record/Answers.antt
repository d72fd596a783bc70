use Rattle.honest.proofs.mixed_is_a_record.Goals as goal
use Rattle.honest.proofs.ExamplesAreRecords.{mixed_is_a_record}

pub returns : goal.returns
returns c = mixed_is_a_record
