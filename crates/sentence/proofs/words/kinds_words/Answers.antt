-- The numbers are written out.
use Rattle.std.proofs.Common.{rules}
use Rattle.std.specs.Fmt.{digits}
use Rattle.sentence.proofs.words.kinds_words.Goals as goal

pub returns-in-Some-Begin : goal.returns-in-Some-Begin
unfolding digits
returns-in-Some-Begin c = search rules

pub returns-in_default : goal.returns-in_default
unfolding digits
returns-in_default c = search rules
