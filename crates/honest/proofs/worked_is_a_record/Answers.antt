use Rattle.honest.proofs.worked_is_a_record.Goals as goal
use Rattle.honest.proofs.ExamplesAreRecords.{worked_is_a_record}

pub returns : goal.returns
returns c = worked_is_a_record
