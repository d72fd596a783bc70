-- What the trace of a watch tells: whether it is clean, and the starting value of a place. Assumes nothing.
use Rattle.std.specs.Prelude.{◌≡◌, ℕ, Bool, true, false, List, [], ◌∷◌}
use Rattle.ordering.specs.Named.{named_orders}
use Rattle.ordering.specs.declared.named.NamedRule.TheVariants.{Sc}
use Rattle.semantics.specs.Calls.{Call, preset, commit, perform, begin, end, report, drop, settle, close}
use Rattle.semantics.specs.State.{made}
use Rattle.semantics.specs.Trace.{Trace, is_clean, starting, follow}

-- The trace of a new watch of one thread under sc after calls.
abbrev pub trace : List Call → Trace
trace cs = (follow (named_orders Sc) cs [] (made 1)).0

-- After calls the trace is clean, or not.
abbrev pub TellsClean : List Call → Bool → Type 0
TellsClean cs b = is_clean (trace cs) ≡ b

-- After calls the trace gives a place a starting value.
abbrev pub Starts : List Call → (place value : ℕ) → Type 0
Starts cs p v = starting (trace cs) p ≡ v

-- A trace is clean once a close answered so.
abbrev pub CleanCasesAgree : Type 0
CleanCasesAgree =
    TellsClean [] false
    × TellsClean (close ∷ []) true
    -- Whatever comes after it.
    × TellsClean (close ∷ commit 0 0 3 0 ∷ drop 0 ∷ close ∷ []) true
    -- A close that was refused.
    × TellsClean (commit 0 0 3 0 ∷ close ∷ []) false
    -- A close that convicted.
    × TellsClean (begin 0 0 3 9 1 ∷ end 0 3 9 2 ∷ report 0 ∷ close ∷ []) false
    -- A settle.
    × TellsClean (begin 0 0 3 0 1 ∷ end 0 3 0 2 ∷ report 0 ∷ settle ∷ []) false

-- A place starts with what was preset last, and otherwise with 0.
abbrev pub StartCasesAgree : Type 0
StartCasesAgree =
    Starts [] 3 0
    × Starts (preset 3 7 ∷ []) 3 7
    × Starts (preset 3 7 ∷ []) 4 0
    × Starts (preset 3 7 ∷ preset 3 8 ∷ preset 4 9 ∷ []) 3 8
    -- A preset that was refused sets nothing.
    × Starts (preset 3 7 ∷ begin 0 0 3 7 1 ∷ preset 3 8 ∷ []) 3 7
    × Starts (preset 512 7 ∷ []) 512 0
    -- No other call sets it.
    × Starts (begin 0 1 3 0 1 ∷ commit 0 1 3 9 ∷ perform 0 0 2 ∷ end 0 3 9 3 ∷ report 0 ∷ settle ∷ close ∷ []) 3 0
