-- The numbers by which refusals, limits and laws are known. Assumes nothing.
use Rattle.std.specs.Prelude.{ℕ}
use Rattle.semantics.specs.declared.verdict.Limit.{Limit}
use Rattle.semantics.specs.declared.verdict.Limit.TheVariants.{Outstanding, Commits, Open, Begins, Owed, Waiting}
use Rattle.semantics.specs.declared.verdict.Refusal.{Refusal}
use Rattle.semantics.specs.declared.verdict.Refusal.TheVariants.{ThreadCount, Convicted, Closed, UnknownThread, UnknownClass, UnknownPlace, PastTime, NotOutstanding, AlreadyBegun, NotOpen, NotOwed, Over, Unfinished, NoSpace}
use Rattle.semantics.specs.declared.verdict.Law.{Law}
use Rattle.semantics.specs.declared.verdict.Law.TheVariants.{SamePlace, Ordered, NoLeave, WrongValue, EndTooEarly, WrongEndValue, Overlap, WrongBeginValue, Dropped}

abbrev pub limit_number : Limit → ℕ
limit_number Outstanding = 1
limit_number Commits = 2
limit_number Open = 3
limit_number Begins = 4
limit_number Owed = 5
limit_number Waiting = 6

abbrev pub refusal_number : Refusal → ℕ
refusal_number ThreadCount = 1
refusal_number Convicted = 2
refusal_number Closed = 3
refusal_number UnknownThread = 4
refusal_number UnknownClass = 5
refusal_number UnknownPlace = 6
refusal_number PastTime = 7
refusal_number NotOutstanding = 8
refusal_number AlreadyBegun = 9
refusal_number NotOpen = 10
refusal_number NotOwed = 11
refusal_number (Over l) = 12
refusal_number Unfinished = 13
refusal_number NoSpace = 14

-- The limit that a refusal names, and 0 where it names none.
abbrev pub limit_in : Refusal → ℕ
limit_in (Over l) = limit_number l
limit_in r = 0

abbrev pub law_number : Law → ℕ
law_number SamePlace = 21
law_number Ordered = 22
law_number NoLeave = 23
law_number WrongValue = 24
law_number EndTooEarly = 25
law_number WrongEndValue = 26
law_number Overlap = 27
law_number WrongBeginValue = 28
law_number Dropped = 29
