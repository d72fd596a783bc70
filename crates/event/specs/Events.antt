-- An event as a kind and five numbers. Assumes nothing.
use Rattle.std.specs.Prelude.{ℕ, Bool, cond, ◌&&◌, Some, None, Option, ◌==◌}
use Rattle.event.specs.declared.event.Event.{Event}
use Rattle.event.specs.declared.event.Event.TheVariants as events
use Rattle.event.specs.declared.event.EventKind.{EventKind}
use Rattle.event.specs.declared.event.EventKind.TheVariants as kinds
use Rattle.event.specs.declared.event.Row.{Row}

-- The kind of an event.
abbrev pub kind_of : Event → EventKind
kind_of (events.Preset place value) = kinds.Preset
kind_of (events.Commit thread class place value) = kinds.Commit
kind_of (events.Perform thread number time) = kinds.Perform
kind_of (events.Advance thread time) = kinds.Advance
kind_of (events.Begin thread kind place value time) = kinds.Begin
kind_of (events.End thread place value time) = kinds.End
kind_of events.Settle = kinds.Settle
kind_of events.Close = kinds.Close

-- A row by its numbers, in the order of the line.
abbrev pub numbers : ℕ → ℕ → ℕ → ℕ → ℕ → Row
numbers thread what place value time = record { thread = thread; what = what; place = place; value = value; time = time }

-- The numbers of an event's line, 0 where the event takes none.
abbrev pub row_of : Event → Row
row_of (events.Preset place value) = numbers 0 0 place value 0
row_of (events.Commit thread class place value) = numbers thread class place value 0
row_of (events.Perform thread number time) = numbers thread number 0 0 time
row_of (events.Advance thread time) = numbers thread 0 0 0 time
row_of (events.Begin thread kind place value time) = numbers thread kind place value time
row_of (events.End thread place value time) = numbers thread 0 place value time
row_of events.Settle = numbers 0 0 0 0 0
row_of events.Close = numbers 0 0 0 0 0

-- The event of a kind, with those of the numbers that it takes.
abbrev pub taking : EventKind → Row → Event
taking kinds.Preset r = events.Preset r.place r.value
taking kinds.Commit r = events.Commit r.thread r.what r.place r.value
taking kinds.Perform r = events.Perform r.thread r.what r.time
taking kinds.Advance r = events.Advance r.thread r.time
taking kinds.Begin r = events.Begin r.thread r.what r.place r.value r.time
taking kinds.End r = events.End r.thread r.place r.value r.time
taking kinds.Settle r = events.Settle
taking kinds.Close r = events.Close

-- Whether two rows have the same numbers.
abbrev pub same_row : Row → Row → Bool
same_row r s = r.thread == s.thread && (r.what == s.what && (r.place == s.place && (r.value == s.value && r.time == s.time)))

-- The event of a kind and a row, if the numbers that it does not take are 0.
abbrev pub event_of : EventKind → Row → Option Event
event_of k r = cond (same_row (row_of (taking k r)) r) (Some (taking k r)) None
