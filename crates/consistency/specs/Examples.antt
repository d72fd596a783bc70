-- Small lists of calls: clean, convicted and refused ones there are. Assumes nothing.
use Rattle.std.specs.Prelude.{◌≡◌, ℕ, true, false, List, [], ◌∷◌}
use Rattle.ordering.specs.declared.class.Class.TheVariants.{Load, Store, Barrier}
use Rattle.semantics.specs.declared.verdict.Refusal.TheVariants.{UnknownThread}
use Rattle.semantics.specs.Calls.{Call, commit, perform, advance, begin, end, report, close, refused}
use Rattle.semantics.specs.Laws.{Rule, by_rule}
use Rattle.semantics.specs.State.{State, made}
use Rattle.semantics.specs.Step.{step}
use Rattle.semantics.specs.Trace.{Trace, Follows, is_clean, follow}
use Rattle.consistency.specs.Verdicts.{is_convicted}

-- The rule that orders every pair.
abbrev pub every_pair : Rule
every_pair a b = true

-- The rule that orders every pair but a store before a load.
abbrev pub all_but_store_load : Rule
all_but_store_load Load b = true
all_but_store_load Store Load = false
all_but_store_load Store Store = true
all_but_store_load Store (Barrier m) = true
all_but_store_load (Barrier m) b = true

-- A store of 7 to place 3 waits while a load of place 4 goes past it; both epochs are reported and judged.
abbrev pub passing : List Call
passing = commit 0 1 3 7 ∷ commit 0 0 4 0 ∷ begin 0 0 4 0 1 ∷ perform 0 1 2 ∷ begin 0 1 3 0 3 ∷ perform 0 0 4 ∷ end 0 4 0 5 ∷ report 0 ∷ end 0 3 7 5 ∷ report 1 ∷ close ∷ []

-- A load takes its value from the outstanding store before it, which performs later.
abbrev pub forwarding : List Call
forwarding = commit 0 1 3 7 ∷ commit 0 0 3 7 ∷ perform 0 1 1 ∷ begin 0 1 3 0 2 ∷ perform 0 0 3 ∷ end 0 3 7 4 ∷ report 0 ∷ close ∷ []

-- Thread 1 reads at 6 what thread 0 wrote at 4; the later epoch is reported first.
abbrev pub handing : List Call
handing = commit 0 1 3 7 ∷ commit 1 0 3 7 ∷ begin 0 1 3 0 3 ∷ perform 0 0 4 ∷ end 0 3 7 5 ∷ begin 1 0 3 7 5 ∷ perform 1 0 6 ∷ end 1 3 7 8 ∷ report 1 ∷ report 0 ∷ close ∷ []

-- The trace and the state of a new watch of n threads that met some calls.
abbrev pub trace_of : Rule → ℕ → List Call → Trace
trace_of R n cs = (follow R cs [] (made n)).0

abbrev pub state_of : Rule → ℕ → List Call → State
state_of R n cs = (follow R cs [] (made n)).1

-- They are what a watch meets and holds.
abbrev pub CallsAreFollowed : Type 0
CallsAreFollowed = (R : Rule) (n : ℕ) (cs : List Call) → Follows R n (trace_of R n cs) (state_of R n cs)

-- Clean traces there are.
abbrev pub RecordsAreClean : Type 0
RecordsAreClean = (is_clean (trace_of all_but_store_load 2 passing) ≡ true) × (is_clean (trace_of all_but_store_load 1 forwarding) ≡ true) × (is_clean (trace_of every_pair 2 handing) ≡ true)

-- And convicted ones: the stricter rule convicts the load that goes past.
abbrev pub RecordIsConvicted : Type 0
RecordIsConvicted = is_convicted (trace_of every_pair 2 passing) ≡ true

-- And refused calls: a watch of one thread has no thread 1.
abbrev pub CallIsRefused : Type 0
CallIsRefused = (step (by_rule every_pair) (made 1) (advance 1 0)).answer ≡ refused UnknownThread
