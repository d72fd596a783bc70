-- What an explanation of a verdict on a text names. Assumes nothing.
use Rattle.std.specs.Prelude.{ℕ, Some, None, Option}
use Rattle.event.specs.declared.event.Event.{Event}
use Rattle.event.specs.declared.event.Event.TheVariants as says
use Rattle.ordering.specs.Classes.{known_class}
use Rattle.ordering.specs.declared.class.Class.{Class}
use Rattle.semantics.specs.declared.verdict.Law.{Law}
use Rattle.semantics.specs.declared.verdict.Law.TheVariants as law
use Rattle.text.specs.declared.reader.Entry.{Entry}
use Rattle.text.specs.Texts.{Reading}
use Rattle.verdict.specs.declared.verdict.Verdict.{Verdict}
use Rattle.verdict.specs.declared.verdict.Verdict.TheVariants as verdict
use Rattle.explain.specs.declared.parts.Begin.{Begin}
use Rattle.explain.specs.declared.parts.Commit.{Commit}
use Rattle.explain.specs.declared.parts.End.{End}
use Rattle.explain.specs.declared.parts.Epoch.{Epoch}
use Rattle.explain.specs.declared.parts.Explanation.{Explanation}
use Rattle.explain.specs.declared.parts.Finding.{Finding}
use Rattle.explain.specs.declared.parts.Finding.TheVariants as finding
use Rattle.explain.specs.declared.parts.Operation.{Operation}
use Rattle.explain.specs.declared.wanted.Wanted.TheVariants as wanted
use Rattle.explain.specs.Scans.{nth, latest, setup_in}

-- What a commit with that class, place and value states.
abbrev pub stated : Option Class → ℕ → ℕ → Option Commit
stated (Some c) place value = Some (record { class = c; place = place; value = value })
stated None place value = None

abbrev pub commit_of : Event → Option Commit
commit_of (says.Preset place value) = None
commit_of (says.Commit thread class place value) = stated (known_class class) place value
commit_of (says.Perform thread number time) = None
commit_of (says.Advance thread time) = None
commit_of (says.Begin thread kind place value time) = None
commit_of (says.End thread place value time) = None
commit_of says.Settle = None
commit_of says.Close = None

abbrev pub commit_in : Option Entry → Option Commit
commit_in None = None
commit_in (Some e) = commit_of e.event

-- Operation n of thread t: what its commit states, which is commit n of the thread.
abbrev pub operation_in : Reading → ℕ → ℕ → Operation
operation_in r t n = record { number = n; commit = commit_in (nth (wanted.CommitBy t) n r) }

-- The begin that an event on line k is.
abbrev pub begin_of : ℕ → Event → Option Begin
begin_of k (says.Preset place value) = None
begin_of k (says.Commit thread class place value) = None
begin_of k (says.Perform thread number time) = None
begin_of k (says.Advance thread time) = None
begin_of k (says.Begin thread kind place value time) = Some (record { line = k; kind = kind; value = value; time = time })
begin_of k (says.End thread place value time) = None
begin_of k says.Settle = None
begin_of k says.Close = None

abbrev pub begin_in : Option Entry → Option Begin
begin_in None = None
begin_in (Some e) = begin_of e.line e.event

-- The end that an event on line k is.
abbrev pub end_of : ℕ → Event → Option End
end_of k (says.Preset place value) = None
end_of k (says.Commit thread class place value) = None
end_of k (says.Perform thread number time) = None
end_of k (says.Advance thread time) = None
end_of k (says.Begin thread kind place value time) = None
end_of k (says.End thread place value time) = Some (record { line = k; thread = thread; place = place; time = time })
end_of k says.Settle = None
end_of k says.Close = None

abbrev pub end_in : Option Entry → Option End
end_in None = None
end_in (Some e) = end_of e.line e.event

-- The begin of the epoch that ends there: the last one before it, by its thread and on its place.
abbrev pub begin_before : Reading → Option End → Option Begin
begin_before r None = None
begin_before r (Some e) = begin_in (latest (wanted.BeginOf e.thread e.place e.line) r)

-- The epoch of a notice, which is that of end number n.
abbrev pub epoch_in : Reading → ℕ → Epoch
epoch_in r n = record { notice = n; begin = begin_before r (end_in (nth wanted.End n r)); end = end_in (nth wanted.End n r) }

-- What a conviction names.
abbrev pub broken : Reading → Law → ℕ → ℕ → ℕ → Finding
broken r law.SamePlace t n o = finding.SamePlace t (operation_in r t n) (operation_in r t o)
broken r law.Ordered t n o = finding.Ordered t (operation_in r t n) (operation_in r t o)
broken r law.NoLeave t n o = finding.NoLeave t (operation_in r t n) o
broken r law.WrongValue t n o = finding.WrongValue t (operation_in r t n) o
broken r law.EndTooEarly t n o = finding.EndTooEarly t n o
broken r law.WrongEndValue t n o = finding.WrongEndValue t n o
broken r law.Overlap t n o = finding.Overlap t (epoch_in r n) o
broken r law.WrongBeginValue t n o = finding.WrongBeginValue t (epoch_in r n) o
broken r law.Dropped t n o = finding.Dropped t (epoch_in r n) o

-- The event on a line.
abbrev pub event_in : Option Entry → Option Event
event_in None = None
event_in (Some e) = Some e.event

-- What was found on a line, with the line, the setup and the event there.
abbrev pub found_on : Reading → ℕ → Finding → Explanation
found_on r k f = record { line = k; setup = setup_in r; call = event_in (nth (wanted.OnLine k) 0 r); finding = f }

-- The explanation of a verdict.
abbrev pub explained : Reading → Verdict → Explanation
explained r (verdict.Clean k) = found_on r k finding.Clean
explained r (verdict.Convicted k c) = found_on r k (broken r c.law c.thread c.number c.other)
explained r (verdict.Refused k x) = found_on r k (finding.Refused x)
explained r (verdict.Garbled f) = found_on r f.line (finding.Garbled f.what)
