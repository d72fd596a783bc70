-- How an event of a text becomes calls on a watch. Assumes nothing.
use Rattle.std.specs.Prelude.{ℕ, List, [], ◌∷◌, Some, None, Option}
use Rattle.event.specs.declared.event.Event.{Event}
use Rattle.event.specs.declared.event.Event.TheVariants as events
use Rattle.semantics.specs.Calls.{Call, preset, commit, perform, advance, begin, end, report, drop, settle, close, Answer, taken, refused, convicted}
use Rattle.semantics.specs.Calls
use Rattle.semantics.specs.Laws.{Precedes}
use Rattle.semantics.specs.State.{State}
use Rattle.semantics.specs.Step.{step}
use Rattle.table.specs.declared.fault.Fault.{Fault}
use Rattle.table.specs.declared.fault.Fault.TheVariants.{Refused, Convicted}

-- The call that an event writes down.
abbrev pub call_of : Event → Call
call_of (events.Preset place value) = preset place value
call_of (events.Commit thread class place value) = commit thread class place value
call_of (events.Perform thread number time) = perform thread number time
call_of (events.Advance thread time) = advance thread time
call_of (events.Begin thread kind place value time) = begin thread kind place value time
call_of (events.End thread place value time) = end thread place value time
call_of events.Settle = settle
call_of events.Close = close

-- The fault that an answer tells.
abbrev pub fault_in : Answer → Option Fault
fault_in (taken k) = None
fault_in Calls.clean = None
fault_in (refused r) = Some (Refused r)
fault_in (convicted c) = Some (Convicted c)

-- What playing an event does: the calls that it makes, in their order, the state after them, and the fault that it tells, if any.
pub record Played : Type 0 where
  pub calls : List Call
  pub state : State
  pub fault : Option Fault

-- A call, and after it what is played.
abbrev pub first : Call → Played → Played
first c p = record { calls = c ∷ p.calls; state = p.state; fault = p.fault }

-- One call, which tells its own fault.
abbrev pub once : Precedes → State → Call → Played
once B s c = record { calls = c ∷ []; state = (step B s c).state; fault = fault_in (step B s c).answer }

-- A notice that could not be reported is dropped, and the fault told.
abbrev pub give_up : Precedes → State → ℕ → Fault → Played
give_up B s n f = record { calls = drop n ∷ []; state = (step B s (drop n)).state; fault = Some f }

-- The fault of the settle, or else that of the second report.
abbrev pub earlier_fault : Option Fault → Fault → Fault
earlier_fault (Some g) f = g
earlier_fault None f = f

-- The second report: of what the settle told, and what the report does.
abbrev pub reported_again : Precedes → State → ℕ → Option Fault → Option Fault → Played
reported_again B s n g None = once B s (report n)
reported_again B s n g (Some f) = first (report n) (give_up B (step B s (report n)).state n (earlier_fault g f))

abbrev pub report_again : Precedes → State → ℕ → Option Fault → Played
report_again B s n g = reported_again B s n g (fault_in (step B s (report n)).answer)

-- After a report that was refused: settle, and report again.
abbrev pub retry : Precedes → State → ℕ → Played
retry B s n = first settle (report_again B (step B s settle).state n (fault_in (step B s settle).answer))

abbrev pub reported : Precedes → State → ℕ → Option Fault → Played
reported B s n None = once B s (report n)
reported B s n (Some f) = first (report n) (retry B (step B s (report n)).state n)

-- The notice of an end is reported at once.
abbrev pub reporting : Precedes → State → ℕ → Played
reporting B s n = reported B s n (fault_in (step B s (report n)).answer)

abbrev pub ended : Precedes → State → Call → Answer → Played
ended B s c (taken n) = first c (reporting B (step B s c).state n)
ended B s c Calls.clean = once B s c
ended B s c (refused r) = once B s c
ended B s c (convicted x) = once B s c

abbrev pub played : Precedes → State → Event → Played
played B s (events.Preset place value) = once B s (preset place value)
played B s (events.Commit thread class place value) = once B s (commit thread class place value)
played B s (events.Perform thread number time) = once B s (perform thread number time)
played B s (events.Advance thread time) = once B s (advance thread time)
played B s (events.Begin thread kind place value time) = once B s (begin thread kind place value time)
played B s (events.End thread place value time) = ended B s (end thread place value time) (step B s (end thread place value time)).answer
played B s events.Settle = once B s settle
played B s events.Close = once B s close
