-- The numbers are written out.
use Rattle.std.proofs.Common.{rules}
use Rattle.std.specs.Fmt.{digits}
use Rattle.sentence.proofs.words.fault_words.Goals as goal

pub returns-in-TextLength : goal.returns-in-TextLength
unfolding digits
returns-in-TextLength c = search rules

pub returns-in-LineLength : goal.returns-in-LineLength
unfolding digits
returns-in-LineLength c = search rules
