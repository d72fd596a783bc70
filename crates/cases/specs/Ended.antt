-- Calls that end epochs and drop notices. Assumes nothing.
use Rattle.std.specs.Prelude.{List, [], ◌∷◌}
use Rattle.ordering.specs.declared.named.NamedRule.TheVariants.{Sc, Tso}
use Rattle.semantics.specs.Calls.{commit, perform, advance, begin, end, report, drop, close}
use Rattle.cases.specs.Records.{taken, clean, refused, convicted}
use Rattle.cases.specs.Table.{Case, case, AllAgree}

-- What sets the last use of an epoch.
abbrev pub use_cases : List Case
use_cases =
    -- A forwarded load leaves the last use alone.
    case Tso 1 (begin 0 1 3 0 1 ∷ commit 0 1 3 7 ∷ commit 0 0 3 7 ∷ perform 0 1 5 ∷ end 0 3 0 5 ∷ [])
    (taken 0 ∷ taken 0 ∷ taken 1 ∷ taken 1 ∷ taken 0 ∷ [])
    -- A load from the copy sets it.
    ∷ case Tso 1 (begin 0 0 3 0 1 ∷ commit 0 0 3 0 ∷ perform 0 0 5 ∷ end 0 3 0 5 ∷ [])
    (taken 0 ∷ taken 0 ∷ taken 2 ∷ convicted 25 0 3 5 ∷ [])
    -- An end is after it.
    ∷ case Tso 1 (begin 0 0 3 0 1 ∷ commit 0 0 3 0 ∷ perform 0 0 5 ∷ end 0 3 0 6 ∷ [])
    (taken 0 ∷ taken 0 ∷ taken 2 ∷ taken 0 ∷ [])
    -- A store sets it.
    ∷ case Tso 1 (begin 0 1 3 0 1 ∷ commit 0 1 3 7 ∷ perform 0 0 5 ∷ end 0 3 7 5 ∷ [])
    (taken 0 ∷ taken 0 ∷ taken 0 ∷ convicted 25 0 3 5 ∷ [])
    -- An end is after that too.
    ∷ case Tso 1 (begin 0 1 3 0 1 ∷ commit 0 1 3 7 ∷ perform 0 0 5 ∷ end 0 3 7 6 ∷ [])
    (taken 0 ∷ taken 0 ∷ taken 0 ∷ taken 0 ∷ [])
    -- A barrier sets none.
    ∷ case Tso 1 (begin 0 1 0 0 1 ∷ commit 0 17 0 0 ∷ perform 0 0 5 ∷ end 0 0 0 5 ∷ [])
    (taken 0 ∷ taken 0 ∷ taken 0 ∷ taken 0 ∷ [])
    -- The epoch of another place keeps its last use and copy.
    ∷ case Tso 1 (begin 0 1 3 0 1 ∷ begin 0 1 4 0 1 ∷ commit 0 1 4 9 ∷ perform 0 0 5 ∷ end 0 3 0 5 ∷ end 0 4 9 5 ∷ [])
    (taken 0 ∷ taken 0 ∷ taken 0 ∷ taken 0 ∷ taken 0 ∷ convicted 25 0 4 5 ∷ [])
    -- So does that of another thread.
    ∷ case Tso 2 (begin 0 1 3 0 1 ∷ begin 1 0 3 0 1 ∷ commit 0 1 3 9 ∷ perform 0 0 5 ∷ end 1 3 0 2 ∷ end 0 3 9 6 ∷ [])
    (taken 0 ∷ taken 0 ∷ taken 0 ∷ taken 0 ∷ taken 0 ∷ taken 1 ∷ [])
    ∷ []

abbrev pub UseCasesAgree : Type 0
UseCasesAgree = AllAgree use_cases

-- Laws 25, 26 and 29.
abbrev pub end_cases : List Case
end_cases =
    -- 25. The begin is the first use.
    case Sc 1 (begin 0 0 3 0 5 ∷ end 0 3 0 5 ∷ [])
    (taken 0 ∷ convicted 25 0 3 5 ∷ [])
    -- An end one later is taken, and one at the clock.
    ∷ case Sc 1 (begin 0 0 3 0 5 ∷ end 0 3 0 6 ∷ begin 0 1 3 0 6 ∷ advance 0 9 ∷ end 0 3 0 9 ∷ [])
    (taken 0 ∷ taken 0 ∷ taken 0 ∷ taken 0 ∷ taken 1 ∷ [])
    -- 25 goes before 26.
    ∷ case Sc 1 (begin 0 0 3 0 5 ∷ end 0 3 9 5 ∷ [])
    (taken 0 ∷ convicted 25 0 3 5 ∷ [])
    -- 25 names thread, place and last use.
    ∷ case Sc 2 (begin 1 0 9 0 3 ∷ commit 1 0 9 0 ∷ perform 1 0 4 ∷ end 1 9 0 4 ∷ [])
    (taken 0 ∷ taken 0 ∷ taken 2 ∷ convicted 25 1 9 4 ∷ [])
    -- 26 names thread, place and copy.
    ∷ case Sc 2 (begin 1 0 9 4 1 ∷ end 1 9 5 2 ∷ [])
    (taken 0 ∷ convicted 26 1 9 4 ∷ [])
    -- 26. A store changes the copy.
    ∷ case Sc 1 (begin 0 1 3 4 1 ∷ commit 0 1 3 7 ∷ perform 0 0 2 ∷ end 0 3 4 3 ∷ [])
    (taken 0 ∷ taken 0 ∷ taken 0 ∷ convicted 26 0 3 7 ∷ [])
    -- Notices are numbered in the order of ending, over all threads.
    ∷ case Sc 2 (begin 0 0 3 0 1 ∷ begin 1 0 4 0 1 ∷ begin 1 0 5 0 1 ∷ end 1 4 0 2 ∷ end 0 6 0 2 ∷ end 0 3 0 2 ∷ end 1 5 0 2 ∷ [])
    (taken 0 ∷ taken 0 ∷ taken 0 ∷ taken 0 ∷ refused 10 0 ∷ taken 1 ∷ taken 2 ∷ [])
    -- An end ends the epoch of its place and thread alone.
    ∷ case Sc 2 (begin 0 0 3 0 1 ∷ begin 0 0 4 0 1 ∷ begin 1 0 3 0 1 ∷ end 0 3 0 2 ∷ end 1 3 0 2 ∷ end 0 4 0 2 ∷ [])
    (taken 0 ∷ taken 0 ∷ taken 0 ∷ taken 0 ∷ taken 1 ∷ taken 2 ∷ [])
    -- 29. A drop of what is owed convicts a running watch, once.
    ∷ case Sc 2 (begin 1 0 9 0 1 ∷ end 1 9 0 2 ∷ drop 0 ∷ drop 0 ∷ commit 0 0 3 0 ∷ [])
    (taken 0 ∷ taken 0 ∷ convicted 29 1 0 9 ∷ refused 11 0 ∷ refused 2 0 ∷ [])
    -- 29 names the notice and its epoch. On a convicted watch a drop is taken.
    ∷ case Sc 2 (begin 0 0 3 0 1 ∷ end 0 3 0 2 ∷ begin 1 0 9 0 1 ∷ end 1 9 0 2 ∷ drop 1 ∷ drop 0 ∷ drop 0 ∷ drop 1 ∷ [])
    (taken 0 ∷ taken 0 ∷ taken 0 ∷ taken 1 ∷ convicted 29 1 1 9 ∷ taken 0 ∷ refused 11 0 ∷ refused 11 0 ∷ [])
    -- So it is after any conviction.
    ∷ case Sc 1 (begin 0 0 3 0 1 ∷ end 0 3 0 2 ∷ commit 0 0 4 0 ∷ perform 0 0 3 ∷ drop 1 ∷ drop 0 ∷ drop 0 ∷ [])
    (taken 0 ∷ taken 0 ∷ taken 0 ∷ convicted 23 0 0 4 ∷ refused 11 0 ∷ taken 0 ∷ refused 11 0 ∷ [])
    -- A drop that is refused does not stop the watch.
    ∷ case Sc 1 (drop 5 ∷ commit 0 2 0 0 ∷ drop 18446744073709551615 ∷ perform 0 0 1 ∷ close ∷ [])
    (refused 11 0 ∷ taken 0 ∷ refused 11 0 ∷ taken 0 ∷ clean ∷ [])
    -- A closed watch owes nothing.
    ∷ case Sc 1 (begin 0 0 3 0 1 ∷ end 0 3 0 2 ∷ report 0 ∷ close ∷ drop 0 ∷ drop 1 ∷ [])
    (taken 0 ∷ taken 0 ∷ taken 0 ∷ clean ∷ refused 11 0 ∷ refused 11 0 ∷ [])
    ∷ []

abbrev pub EndCasesAgree : Type 0
EndCasesAgree = AllAgree end_cases
