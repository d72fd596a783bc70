-- The number is written out.
use Rattle.std.proofs.Common.{rules}
use Rattle.std.specs.Fmt.{digits}
use Rattle.sentence.proofs.words.places_words.Goals as goal

pub returns : goal.returns
unfolding digits
returns c = search rules
