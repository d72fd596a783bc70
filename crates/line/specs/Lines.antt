-- The line of an event, and the event of a line. Assumes nothing.
use Rattle.std.specs.Prelude.{◌≡◌, ℕ, ◌+◌, ◌^◌, ◌<◌, ◌≤◌, List, [], ◌∷◌, length, Some, Ok, decimal, Option, Result}
use Rattle.std.specs.Option.{ok_or}
use Rattle.std.specs.List.{join_with_byte}
use Rattle.fields.specs.Numbers.{number}
use Rattle.fields.specs.Splits.{split}
use Rattle.fields.specs.Steps.{◌given◌, ◌then◌}
use Rattle.event.specs.declared.event.Event.{Event}
use Rattle.event.specs.declared.event.EventKind.{EventKind}
use Rattle.event.specs.declared.event.Row.{Row}
use Rattle.line.specs.declared.fault.Garbled.{Garbled}
use Rattle.line.specs.declared.fault.Garbled.TheVariants.{FieldCount, Unknown, Number, Unused}
use Rattle.line.specs.Columns.{Six, six}
use Rattle.event.specs.Events.{kind_of, row_of, numbers, event_of}
use Rattle.event.specs.Kinds.{word_of, kind_named}

-- The fields of a line: a word and five numbers in base ten.
abbrev pub fields_of : EventKind → Row → List (List ℕ)
fields_of k r = word_of k ∷ decimal r.thread ∷ decimal r.what ∷ decimal r.place ∷ decimal r.value ∷ decimal r.time ∷ []

-- The line of an event, without its line feed: its fields, parted by single spaces.
abbrev pub line_of : Event → List ℕ
line_of e = join_with_byte 32 (fields_of (kind_of e) (row_of e))

-- The five numbers of a line, if each of its last five fields is a number.
abbrev pub row : Six → Option Row
row f =
    number f.thread given λ thread.
    number f.what given λ what.
    number f.place given λ place.
    number f.value given λ value.
    number f.time given λ time.
    Some (numbers thread what place value time)

-- The event of a line: six fields, a word that is known, five numbers, and 0 wherever the event takes none.
abbrev pub read : List ℕ → Result Event Garbled
read l =
    ok_or (six (split 32 l)) FieldCount then λ f.
    ok_or (kind_named f.event) Unknown then λ k.
    ok_or (row f) Number then λ r.
    ok_or (event_of k r) Unused

-- The numbers of a row are of 64 bits.
abbrev pub Fit : Row → Type 0
Fit r = (r.thread < 2 ^ 64) × (r.what < 2 ^ 64) × (r.place < 2 ^ 64) × (r.value < 2 ^ 64) × (r.time < 2 ^ 64)

-- The line of an event is read as that event.
abbrev pub ReadsBack : Type 0
ReadsBack = (e : Event) → Fit (row_of e) → read (line_of e) ≡ Ok e

-- A line that is read as an event is the line of that event, whose numbers are of 64 bits.
abbrev pub OneLine : Type 0
OneLine = (l : List ℕ) (e : Event) → read l ≡ Ok e → (line_of e ≡ l) × Fit (row_of e)

-- No line of an event is longer than 111 bytes with its line feed.
abbrev pub LongestLine : Type 0
LongestLine = (e : Event) → Fit (row_of e) → length (line_of e) + 1 ≤ 111
