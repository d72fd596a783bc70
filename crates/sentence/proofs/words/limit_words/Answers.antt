-- The numbers are written out.
use Rattle.std.proofs.Common.{rules}
use Rattle.std.specs.Fmt.{digits}
use Rattle.sentence.proofs.words.limit_words.Goals as goal

pub returns-in-Outstanding : goal.returns-in-Outstanding
unfolding digits
returns-in-Outstanding c = search rules

pub returns-in-Commits : goal.returns-in-Commits
unfolding digits
returns-in-Commits c = search rules

pub returns-in-Open : goal.returns-in-Open
unfolding digits
returns-in-Open c = search rules

pub returns-in-Begins : goal.returns-in-Begins
unfolding digits
returns-in-Begins c = search rules

pub returns-in-Owed : goal.returns-in-Owed
unfolding digits
returns-in-Owed c = search rules

pub returns-in-Waiting : goal.returns-in-Waiting
unfolding digits
returns-in-Waiting c = search rules
