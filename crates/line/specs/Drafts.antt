-- The line that is written, and what a space holds after a line was written to it. Assumes nothing.
use Rattle.std.specs.Prelude.{ℕ, cond, List, [], ◌∷◌, ◌++◌, length, drop, Ok, Err, Result, nat_le}
use Rattle.event.specs.declared.event.Event.{Event}
use Rattle.line.specs.declared.fault.TooLong.{TooLong}
use Rattle.line.specs.Lines.{line_of}

-- The line of an event with its line feed.
abbrev pub written : Event → List ℕ
written e = line_of e ++ (10 ∷ [])

-- The length of a line that goes into a space, or the refusal of one that does not.
abbrev pub fitted : List ℕ → List ℕ → Result ℕ TooLong
fitted l s = cond (nat_le (length l) (length s)) (Ok (length l)) (Err (record {}))

-- The space after that: the line and then the rest as it was, or all as it was.
abbrev pub laid : List ℕ → List ℕ → List ℕ
laid l s = cond (nat_le (length l) (length s)) (l ++ drop (length l) s) s
