-- The numbers of what can go wrong with a text. Assumes nothing.
use Rattle.std.specs.Prelude.{ℕ}
use Rattle.line.specs.declared.fault.Garbled.{Garbled}
use Rattle.line.specs.declared.fault.Garbled.TheVariants.{TextLength, LineLength, Heading, FieldCount, Unknown, Number, Unused, End}
use Rattle.line.specs.declared.fault.TooLong.{TooLong}

-- The number of each fault of a text.
abbrev pub code_of : Garbled → ℕ
code_of TextLength = 41
code_of LineLength = 42
code_of Heading = 43
code_of FieldCount = 44
code_of Unknown = 45
code_of Number = 46
code_of Unused = 47
code_of End = 48

-- The number of the refusal to write a line that is longer than its space.
abbrev pub refusal_of : TooLong → ℕ
refusal_of t = 14
