-- What a reader has still to tell, before and after each of its calls. Assumes nothing.
use Rattle.std.specs.Prelude.{◌≡◌, ℕ, ◌+◌, ◌<◌, Bool, false, cond, List, length, Some, None, Ok, Err, codes, Option, Result, ◌≢◌}
use Rattle.fields.specs.Splits.{split}
use Rattle.line.specs.declared.fault.Garbled.{Garbled}
use Rattle.text.specs.declared.fault.Fault.{Fault}
use Rattle.text.specs.declared.reader.Entry.{Entry}
use Rattle.text.specs.declared.reader.Reader.{Reader}
use Rattle.setup.specs.declared.setup.Setup.{Setup}
use Rattle.text.specs.Texts.{heading, later, closes, Reading, done, fault, sets, tells, closed, events, from_names, from_start}

-- What is left to tell before the first line, before the third line, and after it.
abbrev pub start : Reader → Reading
start r = from_start r.lines r.rest.now

abbrev pub before_names : Reader → Reading
before_names r = from_names r.lines (split 10 r.rest.now)

abbrev pub left : Reader → Reading
left r = cond r.closed (closed r.lines (split 10 r.rest.now)) (events r.lines (split 10 r.rest.now))

-- How many bytes are left.
abbrev pub remaining : Reader → ℕ
remaining r = length r.rest.now

-- What the reading of the setup told, with what is left after it.
abbrev pub set_up : Reader → Result Setup Fault → Reading
set_up after (Ok s) = sets s (before_names after)
set_up after (Err f) = fault f

-- The same of the line of names.
abbrev pub headed : Reader → Result (Unit {0}) Fault → Reading
headed after (Ok _) = left after
headed after (Err f) = fault f

-- The same of the next event.
abbrev pub next : Reader → Result (Option Entry) Fault → Reading
next after (Ok (Some e)) = tells e.line e.event (left after)
next after (Ok None) = done
next after (Err f) = fault f

-- The result of line k, a fault with its line.
abbrev pub located : {A : Type 0} → ℕ → Result A Garbled → Result A Fault
located k (Ok x) = Ok x
located k (Err g) = Err (record { line = k; what = g })

-- Whether the third line is as it has to be.
abbrev pub names_read : Reader → Result (Unit {0}) Fault
names_read r = located (r.lines + 1) (heading (codes "event thread what place value time") (split 10 r.rest.now))

-- A reader of a text of which nothing was read.
pub record Fresh (bs : List ℕ) (r : Reader) : Type 0 where
  pub rest : r.rest.now ≡ bs
  pub lines : r.lines ≡ 0
  pub closed : r.closed ≡ false

-- A reader before and after a line.
pub record Moved (before after : Reader) : Type 0 where
  pub lines : split 10 after.rest.now ≡ later (split 10 before.rest.now)
  pub count : after.lines ≡ before.lines + 1

-- A reader before and after a line that leaves it closed or not.
pub record MovedTo (shut : Bool) (before after : Reader) : Type 0 where
  pub moved : Moved before after
  pub closed : after.closed ≡ shut

-- What a reader holds after the setup: a fault in the second line leaves it before that line, and any other as it was.
pub record AtFault (before after : Reader) (f : Fault) : Type 0 where
  pub second : f.line ≡ before.lines + 2 → MovedTo before.closed before after
  pub other : (f.line ≢ before.lines + 2) → after ≡ before

pub record MovedTwice (before after : Reader) : Type 0 where
  pub lines : split 10 after.rest.now ≡ later (later (split 10 before.rest.now))
  pub count : after.lines ≡ before.lines + 2
  pub closed : after.closed ≡ before.closed

abbrev pub AfterSetup : Reader → Reader → Result Setup Fault → Type 0
AfterSetup before after (Ok s) = MovedTwice before after
AfterSetup before after (Err f) = AtFault before after f

-- The same after the line of names: a fault leaves the reader as it was.
abbrev pub AfterNames : Reader → Reader → Result (Unit {0}) Fault → Type 0
AfterNames before after (Ok _) = MovedTo false before after
AfterNames before after (Err f) = after ≡ before

-- The same after an event: at the end, and after a fault, the reader is as it was.
abbrev pub AfterNext : Reader → Reader → Result (Option Entry) Fault → Type 0
AfterNext before after (Ok (Some e)) = MovedTo (closes e.event) before after
AfterNext before after (Ok None) = after ≡ before
AfterNext before after (Err f) = after ≡ before

-- An event takes bytes from what is left.
abbrev pub Shrinks : Reader → Reader → Result (Option Entry) Fault → Type 0
Shrinks before after (Ok (Some e)) = remaining after < remaining before
Shrinks before after (Ok None) = Unit {0}
Shrinks before after (Err f) = Unit {0}
