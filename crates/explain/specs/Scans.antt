-- How an event is found in what a text tells. Assumes nothing.
use Rattle.std.specs.Prelude.{ℕ, Bool, true, false, cond, List, [], ◌∷◌, Some, None, Option, ◌==◌, nat_lt, filter, slice_get}
use Rattle.std.specs.List.{last_or}
use Rattle.event.specs.declared.event.Event.{Event}
use Rattle.event.specs.declared.event.Event.TheVariants as says
use Rattle.setup.specs.declared.setup.Setup.{Setup}
use Rattle.text.specs.declared.reader.Entry.{Entry}
use Rattle.text.specs.Texts.{Reading, done, fault, sets, tells, reading}
use Rattle.explain.specs.declared.scan.Recording.{Recording}
use Rattle.explain.specs.declared.wanted.Wanted.{Wanted}
use Rattle.explain.specs.declared.wanted.Wanted.TheVariants.{OnLine, CommitBy, BeginOf, End}

-- What the text of a recording tells.
abbrev pub reading_of : Recording → Reading
reading_of r = reading r.text.now

-- A commit by the thread.
abbrev pub commits : ℕ → Event → Bool
commits t (says.Preset place value) = false
commits t (says.Commit thread class place value) = thread == t
commits t (says.Perform thread number time) = false
commits t (says.Advance thread time) = false
commits t (says.Begin thread kind place value time) = false
commits t (says.End thread place value time) = false
commits t says.Settle = false
commits t says.Close = false

-- A begin by the thread on the place.
abbrev pub begins : ℕ → ℕ → Event → Bool
begins t p (says.Preset place value) = false
begins t p (says.Commit thread class place value) = false
begins t p (says.Perform thread number time) = false
begins t p (says.Advance thread time) = false
begins t p (says.Begin thread kind place value time) = cond (thread == t) (place == p) false
begins t p (says.End thread place value time) = false
begins t p says.Settle = false
begins t p says.Close = false

-- An end.
abbrev pub ends : Event → Bool
ends (says.Preset place value) = false
ends (says.Commit thread class place value) = false
ends (says.Perform thread number time) = false
ends (says.Advance thread time) = false
ends (says.Begin thread kind place value time) = false
ends (says.End thread place value time) = true
ends says.Settle = false
ends says.Close = false

-- Whether the event on line k is among the wanted.
abbrev pub meant : Wanted → ℕ → Event → Bool
meant (OnLine line) k e = k == line
meant (CommitBy thread) k e = commits thread e
meant (BeginOf thread place before) k e = cond (nat_lt k before) (begins thread place e) false
meant End k e = ends e

-- The events that are told, each with its line.
abbrev pub entries : Reading → List Entry
entries done = []
entries (fault f) = []
entries (sets s r) = entries r
entries (tells k e r) = record { line = k; event = e } ∷ entries r

-- The wanted events.
abbrev pub all_meant : Wanted → Reading → List Entry
all_meant w r = filter (λ e. meant w e.line e.event) (entries r)

-- The wanted event number n, counted from 0.
abbrev pub nth : Wanted → ℕ → Reading → Option Entry
nth w n r = slice_get (all_meant w r) n

-- The last wanted event.
abbrev pub latest : Wanted → Reading → Option Entry
latest w r = last_or None (all_meant w r)

-- What line 2 sets.
abbrev pub setup_in : Reading → Option Setup
setup_in done = None
setup_in (fault f) = None
setup_in (sets s r) = Some s
setup_in (tells k e r) = None
