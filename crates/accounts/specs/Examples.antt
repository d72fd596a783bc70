-- Traces with epochs in every account, for every rule. Assumes nothing.
use Rattle.std.specs.Prelude.{◌≡◌, ℕ, List, [], ◌∷◌, map}
use Rattle.semantics.specs.declared.counts.Counts.{Counts}
use Rattle.semantics.specs.Calls.{Call, advance, begin, end, report, drop, settle, close}
use Rattle.semantics.specs.Laws.{Rule}
use Rattle.semantics.specs.State.{State, made}
use Rattle.semantics.specs.Trace.{Trace, Follows, follow}
use Rattle.accounts.specs.Accounts.{judgings}
use Rattle.accounts.specs.Exact.{sizes}

-- The trace of a new watch of two threads after some calls, and what the watch then holds.
abbrev pub trace_of : Rule → List Call → Trace
trace_of R cs = (follow R cs [] (made 2)).0

abbrev pub state_of : Rule → List Call → State
state_of R cs = (follow R cs [] (made 2)).1

abbrev pub judged_numbers : Trace → List ℕ
judged_numbers tr = map (λ e. e.number) (judgings tr)

-- Two threads write a place, from 2 to 5 and from 4 to 9, and the notices are reported the other way round: the first settle judges one of them
-- and convicts, the second is refused. A third epoch stays open, a fourth is dropped after the conviction, a fifth stays owed.
abbrev pub overlapping : List Call
overlapping =
    begin 0 1 3 0 2 ∷ begin 1 1 3 0 4 ∷ end 1 3 0 9 ∷ end 0 3 0 5 ∷ report 0 ∷ report 1
    ∷ begin 0 0 7 0 10 ∷ begin 1 0 8 0 10 ∷ end 1 8 0 11 ∷ begin 1 0 9 0 12 ∷ end 1 9 0 13 ∷ settle ∷ settle ∷ drop 2 ∷ []

-- The same from 2 to 4: the notice 1, begun at 2, is judged before the notice 0, begun at 4.
abbrev pub one_by_one : List Call
one_by_one =
    begin 0 1 3 0 2 ∷ begin 1 1 3 0 4 ∷ end 1 3 0 9 ∷ end 0 3 0 4 ∷ report 0 ∷ report 1
    ∷ settle ∷ advance 0 20 ∷ advance 1 20 ∷ settle ∷ []

-- The same again, closed before it is settled.
abbrev pub all_at_once : List Call
all_at_once = begin 0 1 3 0 2 ∷ begin 1 1 3 0 4 ∷ end 1 3 0 9 ∷ end 0 3 0 4 ∷ report 0 ∷ report 1 ∷ close ∷ []

-- A watch meets the trace of these calls, whatever the rule; so many epochs then stand in each account, and these were judged, in this order.
pub record Example (cs : List Call) (sizes_are : Counts) (judged : List ℕ) : Type 0 where
  pub met : (R : Rule) → Follows R 2 (trace_of R cs) (state_of R cs)
  pub accounts : (R : Rule) → sizes (trace_of R cs) ≡ sizes_are
  pub order : (R : Rule) → judged_numbers (trace_of R cs) ≡ judged

abbrev pub ExamplesStand : Type 0
ExamplesStand =
    Example overlapping (record { «open» = 1; owed = 1; waiting = 1; judged = 1; dropped = 1 }) (1 ∷ [])
    × Example one_by_one (record { «open» = 0; owed = 0; waiting = 0; judged = 2; dropped = 0 }) (1 ∷ 0 ∷ [])
    × Example all_at_once (record { «open» = 0; owed = 0; waiting = 0; judged = 2; dropped = 0 }) (1 ∷ 0 ∷ [])
