-- What is held after calls: accounts and verdict, homes, free places. Assumes nothing.
use Rattle.std.specs.Prelude.{◌≡◌, ℕ, Bool, true, false, List, [], ◌∷◌}
use Rattle.ordering.specs.declared.named.NamedRule.{NamedRule}
use Rattle.ordering.specs.declared.named.NamedRule.TheVariants.{Sc}
use Rattle.semantics.specs.declared.counts.Counts.{Counts}
use Rattle.semantics.specs.declared.row.Home.{Home}
use Rattle.semantics.specs.declared.verdict.Law.{Law}
use Rattle.semantics.specs.declared.verdict.Law.TheVariants.{NoLeave, WrongEndValue, WrongBeginValue, Dropped}
use Rattle.semantics.specs.declared.verdict.Verdict.{Verdict}
use Rattle.semantics.specs.declared.verdict.Verdict.TheVariants.{Running, Clean, Guilty}
use Rattle.semantics.specs.Asking.{counts, free_places}
use Rattle.semantics.specs.Calls.{Call, preset, commit, perform, advance, begin, end, report, drop, settle, close}
use Rattle.semantics.specs.State.{made, thread_of, home_of}
use Rattle.cases.specs.Table.{after}

-- The five accounts, by their sizes.
abbrev pub tally : («open» owed waiting judged dropped : ℕ) → Counts
tally a b c d e = record { «open» = a; owed = b; waiting = c; judged = d; dropped = e }

abbrev pub guilty_of : Law → (thread number other : ℕ) → Verdict
guilty_of l t n o = Guilty (record { law = l; thread = t; number = n; other = o })

abbrev pub kept : (value read_end write_end : ℕ) (begun : Bool) → Home
kept v r w b = record { value = v; read_end = r; write_end = w; begun = b }

-- After calls of a new watch it has these accounts and this verdict.
abbrev pub Stands : NamedRule → ℕ → List Call → Counts → Verdict → Type 0
Stands r n cs k v = (counts (after r (made n) cs) ≡ k) × ((after r (made n) cs).verdict ≡ v)

-- After calls of a new watch a place has this home.
abbrev pub Homed : NamedRule → ℕ → List Call → ℕ → Home → Type 0
Homed r n cs p h = home_of (after r (made n) cs) p ≡ h

-- After calls of a new watch a thread has so many free places.
abbrev pub Freed : NamedRule → ℕ → List Call → ℕ → ℕ → Type 0
Freed r n cs t k = free_places (thread_of (after r (made n) cs) t) ≡ k

-- Accounts and verdict.
abbrev pub AccountCasesAgree : Type 0
AccountCasesAgree =
    -- A new watch.
    Stands Sc 2 [] (tally 0 0 0 0 0) Running
    -- Open in two threads, and one owed.
    × Stands Sc 2 (begin 0 0 3 0 1 ∷ begin 1 0 4 0 1 ∷ begin 1 0 5 0 1 ∷ end 1 4 0 2 ∷ []) (tally 2 1 0 0 0) Running
    -- One owed, one waiting.
    × Stands Sc 1 (begin 0 0 3 0 1 ∷ end 0 3 0 2 ∷ begin 0 0 3 0 2 ∷ end 0 3 0 3 ∷ report 1 ∷ []) (tally 0 1 1 0 0) Running
    -- One judged, one waiting.
    × Stands Sc 2 (begin 0 0 3 0 1 ∷ end 0 3 0 2 ∷ begin 0 0 3 0 2 ∷ end 0 3 0 3 ∷ report 1 ∷ report 0 ∷ advance 1 2 ∷ settle ∷ []) (tally 0 0 1 1 0) Running
    -- Refused calls change no account.
    × Stands Sc 1 (begin 0 0 3 0 1 ∷ begin 0 0 3 0 1 ∷ begin 0 2 4 0 1 ∷ end 0 4 0 2 ∷ report 0 ∷ drop 0 ∷ close ∷ []) (tally 1 0 0 0 0) Running
    -- A drop counts as dropped, and convicts.
    × Stands Sc 2 (begin 1 0 9 0 1 ∷ end 1 9 0 2 ∷ drop 0 ∷ []) (tally 0 0 0 0 1) (guilty_of Dropped 1 0 9)
    -- A later drop counts too; the first conviction stays.
    × Stands Sc 2 (begin 0 0 3 0 1 ∷ end 0 3 0 2 ∷ begin 1 0 9 0 1 ∷ end 1 9 0 2 ∷ drop 1 ∷ drop 0 ∷ drop 0 ∷ []) (tally 0 0 0 0 2) (guilty_of Dropped 1 1 9)
    -- So it does after another conviction.
    × Stands Sc 1 (begin 0 0 3 0 1 ∷ end 0 3 0 2 ∷ commit 0 0 4 0 ∷ perform 0 0 3 ∷ drop 0 ∷ []) (tally 0 0 0 0 1) (guilty_of NoLeave 0 0 4)
    -- A refused drop counts for nothing.
    × Stands Sc 1 (begin 0 0 3 0 1 ∷ end 0 3 0 2 ∷ drop 1 ∷ []) (tally 0 1 0 0 0) Running
    -- An end that convicts ends nothing.
    × Stands Sc 1 (begin 0 0 3 0 1 ∷ end 0 3 5 2 ∷ []) (tally 1 0 0 0 0) (guilty_of WrongEndValue 0 3 0)
    -- A settle that convicts: what was judged before stays judged, the rest waits.
    × Stands Sc 1 (begin 0 0 3 0 1 ∷ end 0 3 0 2 ∷ report 0 ∷ begin 0 0 3 9 2 ∷ end 0 3 9 3 ∷ report 1 ∷ advance 0 4 ∷ settle ∷ []) (tally 0 0 1 1 0) (guilty_of WrongBeginValue 0 1 0)
    -- A close that convicts, likewise.
    × Stands Sc 1 (begin 0 0 3 0 1 ∷ end 0 3 0 2 ∷ report 0 ∷ begin 0 0 3 9 2 ∷ end 0 3 9 3 ∷ report 1 ∷ close ∷ []) (tally 0 0 1 1 0) (guilty_of WrongBeginValue 0 1 0)
    -- What is judged after the failing one waits too.
    × Stands Sc 1 (begin 0 0 3 9 1 ∷ end 0 3 9 2 ∷ report 0 ∷ begin 0 0 3 0 2 ∷ end 0 3 0 3 ∷ report 1 ∷ close ∷ []) (tally 0 0 2 0 0) (guilty_of WrongBeginValue 0 0 0)
    -- A clean close.
    × Stands Sc 1 (begin 0 0 3 0 1 ∷ end 0 3 0 2 ∷ report 0 ∷ close ∷ drop 0 ∷ []) (tally 0 0 0 1 0) Clean

-- Homes: value, read end, write end, and whether the place has had a begin.
abbrev pub KeptCasesAgree : Type 0
KeptCasesAgree =
    -- A new place.
    Homed Sc 1 [] 3 (kept 0 0 0 false)
    -- A preset sets the value.
    × Homed Sc 1 (preset 3 7 ∷ []) 3 (kept 7 0 0 false)
    -- It sets that of no other place.
    × Homed Sc 1 (preset 3 7 ∷ []) 4 (kept 0 0 0 false)
    -- A begin marks the place and keeps its value.
    × Homed Sc 1 (preset 3 7 ∷ begin 0 0 3 5 1 ∷ []) 3 (kept 7 0 0 true)
    -- An end and a report leave the home as it was.
    × Homed Sc 1 (begin 0 1 3 0 1 ∷ commit 0 1 3 9 ∷ perform 0 0 2 ∷ end 0 3 9 3 ∷ report 0 ∷ []) 3 (kept 0 0 0 true)
    -- A judged write sets value and write end.
    × Homed Sc 1 (begin 0 1 3 0 1 ∷ commit 0 1 3 9 ∷ perform 0 0 2 ∷ end 0 3 9 3 ∷ report 0 ∷ settle ∷ []) 3 (kept 9 0 3 true)
    -- A judged read raises the read end.
    × Homed Sc 1 (preset 3 7 ∷ begin 0 0 3 7 1 ∷ end 0 3 7 4 ∷ report 0 ∷ settle ∷ []) 3 (kept 7 4 0 true)
    -- One that ends earlier does not lower it.
    × Homed Sc 2 (begin 0 0 3 0 1 ∷ end 0 3 0 9 ∷ begin 1 0 3 0 2 ∷ end 1 3 0 5 ∷ report 0 ∷ report 1 ∷ close ∷ []) 3 (kept 0 9 0 true)
    -- What was judged before a conviction stays in the home.
    × Homed Sc 1 (begin 0 1 3 0 1 ∷ commit 0 1 3 9 ∷ perform 0 0 2 ∷ end 0 3 9 3 ∷ report 0 ∷ begin 0 0 3 0 3 ∷ end 0 3 0 4 ∷ report 1 ∷ close ∷ []) 3 (kept 9 0 3 true)

-- Free places.
abbrev pub FreeCasesAgree : Type 0
FreeCasesAgree =
    -- A new thread.
    Freed Sc 2 [] 1 64
    -- Loads, stores and barriers count, in their thread.
    × Freed Sc 2 (commit 0 0 3 0 ∷ commit 0 1 3 0 ∷ commit 0 17 0 0 ∷ commit 1 0 3 0 ∷ []) 0 61
    -- What performed does not.
    × Freed Sc 1 (begin 0 0 3 0 1 ∷ commit 0 0 3 0 ∷ commit 0 0 3 0 ∷ perform 0 0 2 ∷ []) 0 63
