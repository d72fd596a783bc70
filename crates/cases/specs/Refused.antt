-- Calls that are refused, one case or more for each refusal, and calls that are just not. Assumes nothing.
use Rattle.std.specs.Prelude.{List, [], ◌∷◌}
use Rattle.ordering.specs.declared.named.NamedRule.TheVariants.{Sc, Rmo}
use Rattle.semantics.specs.Calls.{preset, commit, perform, advance, begin, end, report, drop, settle, close}
use Rattle.cases.specs.Records.{taken, clean, refused, convicted}
use Rattle.cases.specs.Table.{Case, case, AllAgree}

-- Each refusal that a call can meet, by its number.
abbrev pub refusal_cases : List Case
refusal_cases =
    -- 2. A convicted watch refuses every call but a drop.
    case Sc 1 (begin 0 0 3 0 1 ∷ end 0 3 5 2 ∷ preset 4 1 ∷ commit 0 0 4 0 ∷ perform 0 0 2 ∷ advance 0 3 ∷ begin 0 0 4 0 3 ∷ end 0 3 0 3 ∷ report 0 ∷ settle ∷ close ∷ [])
    (taken 0 ∷ convicted 26 0 3 0 ∷ refused 2 0 ∷ refused 2 0 ∷ refused 2 0 ∷ refused 2 0 ∷ refused 2 0 ∷ refused 2 0 ∷ refused 2 0 ∷ refused 2 0 ∷ refused 2 0 ∷ [])
    -- 2 goes before what else is wrong with a call.
    ∷ case Sc 1 (begin 0 0 3 0 1 ∷ end 0 3 5 2 ∷ preset 512 1 ∷ commit 1 18 512 0 ∷ perform 1 9 0 ∷ advance 1 0 ∷ begin 1 2 512 0 0 ∷ end 1 512 0 0 ∷ report 9 ∷ drop 0 ∷ [])
    (taken 0 ∷ convicted 26 0 3 0 ∷ refused 2 0 ∷ refused 2 0 ∷ refused 2 0 ∷ refused 2 0 ∷ refused 2 0 ∷ refused 2 0 ∷ refused 2 0 ∷ refused 11 0 ∷ [])
    -- 3. So does a closed one.
    ∷ case Sc 1 (close ∷ preset 4 1 ∷ commit 0 0 4 0 ∷ perform 0 0 2 ∷ advance 0 3 ∷ begin 0 0 4 0 3 ∷ end 0 3 0 3 ∷ report 0 ∷ settle ∷ close ∷ [])
    (clean ∷ refused 3 0 ∷ refused 3 0 ∷ refused 3 0 ∷ refused 3 0 ∷ refused 3 0 ∷ refused 3 0 ∷ refused 3 0 ∷ refused 3 0 ∷ refused 3 0 ∷ [])
    -- 3 goes before what else is wrong with a call.
    ∷ case Sc 1 (close ∷ preset 512 1 ∷ commit 1 18 512 0 ∷ perform 1 9 0 ∷ advance 1 0 ∷ begin 1 2 512 0 0 ∷ end 1 512 0 0 ∷ report 9 ∷ drop 0 ∷ [])
    (clean ∷ refused 3 0 ∷ refused 3 0 ∷ refused 3 0 ∷ refused 3 0 ∷ refused 3 0 ∷ refused 3 0 ∷ refused 3 0 ∷ refused 11 0 ∷ [])
    -- 4. Threads count from 0.
    ∷ case Sc 2 (commit 1 0 3 0 ∷ commit 2 0 3 0 ∷ advance 1 5 ∷ advance 2 5 ∷ perform 2 0 5 ∷ begin 2 0 3 0 5 ∷ end 2 3 0 5 ∷ begin 1 0 3 0 5 ∷ [])
    (taken 0 ∷ refused 4 0 ∷ taken 0 ∷ refused 4 0 ∷ refused 4 0 ∷ refused 4 0 ∷ refused 4 0 ∷ taken 0 ∷ [])
    -- 4, in the largest watch.
    ∷ case Sc 4 (commit 3 0 3 0 ∷ commit 4 0 3 0 ∷ commit 18446744073709551615 0 3 0 ∷ [])
    (taken 0 ∷ refused 4 0 ∷ refused 4 0 ∷ [])
    -- 5. The last class is 17, the last kind of an epoch 1.
    ∷ case Sc 1 (commit 0 17 0 0 ∷ commit 0 18 0 0 ∷ commit 0 18446744073709551615 0 0 ∷ commit 0 0 3 0 ∷ begin 0 2 3 0 1 ∷ begin 0 1 3 0 1 ∷ begin 0 0 4 0 1 ∷ [])
    (taken 0 ∷ refused 5 0 ∷ refused 5 0 ∷ taken 1 ∷ refused 5 0 ∷ taken 0 ∷ taken 0 ∷ [])
    -- 6. The last place is 511, and a barrier has none.
    ∷ case Sc 1 (preset 511 7 ∷ preset 512 7 ∷ commit 0 0 511 0 ∷ commit 0 0 512 0 ∷ commit 0 1 512 0 ∷ commit 0 2 512 9 ∷ begin 0 0 511 7 1 ∷ begin 0 0 512 0 1 ∷ end 0 512 0 2 ∷ end 0 511 7 2 ∷ [])
    (taken 0 ∷ refused 6 0 ∷ taken 0 ∷ refused 6 0 ∷ refused 6 0 ∷ taken 1 ∷ taken 0 ∷ refused 6 0 ∷ refused 6 0 ∷ taken 0 ∷ [])
    -- 6, for a store and for the barrier of every pair.
    ∷ case Sc 1 (commit 0 1 511 0 ∷ commit 0 1 512 0 ∷ commit 0 17 18446744073709551615 1 ∷ [])
    (taken 0 ∷ refused 6 0 ∷ taken 1 ∷ [])
    -- 7. A time may be the clock, and not lie before it. Every timed call moves the clock.
    ∷ case Sc 1 (advance 0 5 ∷ advance 0 4 ∷ advance 0 5 ∷ begin 0 0 3 0 4 ∷ begin 0 0 3 0 5 ∷ commit 0 0 3 0 ∷ perform 0 0 4 ∷ perform 0 0 5 ∷ end 0 3 0 4 ∷ end 0 3 0 6 ∷ advance 0 5 ∷ [])
    (taken 0 ∷ refused 7 0 ∷ taken 0 ∷ refused 7 0 ∷ taken 0 ∷ taken 0 ∷ refused 7 0 ∷ taken 2 ∷ refused 7 0 ∷ taken 0 ∷ refused 7 0 ∷ [])
    -- 7, after a begin.
    ∷ case Sc 1 (begin 0 0 3 0 5 ∷ advance 0 4 ∷ advance 0 5 ∷ advance 0 6 ∷ end 0 3 0 6 ∷ [])
    (taken 0 ∷ refused 7 0 ∷ taken 0 ∷ taken 0 ∷ taken 0 ∷ [])
    -- 7, after a perform.
    ∷ case Sc 1 (begin 0 0 3 0 1 ∷ commit 0 0 3 0 ∷ perform 0 0 5 ∷ advance 0 4 ∷ advance 0 5 ∷ [])
    (taken 0 ∷ taken 0 ∷ taken 2 ∷ refused 7 0 ∷ taken 0 ∷ [])
    -- 7. Each thread has a clock of its own, from 0.
    ∷ case Sc 2 (advance 0 5 ∷ advance 1 0 ∷ begin 1 0 3 0 0 ∷ advance 1 3 ∷ advance 1 2 ∷ advance 0 5 ∷ [])
    (taken 0 ∷ taken 0 ∷ taken 0 ∷ taken 0 ∷ refused 7 0 ∷ taken 0 ∷ [])
    -- 8. A perform names an operation that is outstanding in its thread.
    ∷ case Rmo 2 (commit 0 0 3 0 ∷ perform 0 1 1 ∷ perform 1 0 1 ∷ begin 0 0 3 0 1 ∷ perform 0 0 1 ∷ perform 0 0 1 ∷ [])
    (taken 0 ∷ refused 8 0 ∷ refused 8 0 ∷ taken 0 ∷ taken 2 ∷ refused 8 0 ∷ [])
    -- 8. What performed is gone, and nothing else.
    ∷ case Rmo 1 (commit 0 0 3 0 ∷ commit 0 0 3 0 ∷ commit 0 0 3 0 ∷ begin 0 0 3 0 1 ∷ perform 0 1 1 ∷ perform 0 1 1 ∷ perform 0 0 1 ∷ perform 0 2 1 ∷ perform 0 3 1 ∷ [])
    (taken 0 ∷ taken 1 ∷ taken 2 ∷ taken 0 ∷ taken 2 ∷ refused 8 0 ∷ taken 2 ∷ taken 2 ∷ refused 8 0 ∷ [])
    -- 9. A thread has a place open once, in either kind; another thread may open it too.
    ∷ case Sc 2 (begin 0 0 3 0 1 ∷ begin 0 1 3 0 2 ∷ begin 0 0 3 0 2 ∷ begin 1 1 3 0 1 ∷ begin 1 0 3 0 1 ∷ begin 0 0 4 0 2 ∷ [])
    (taken 0 ∷ refused 9 0 ∷ refused 9 0 ∷ taken 0 ∷ refused 9 0 ∷ taken 0 ∷ [])
    -- 9. After its end the place can be begun again.
    ∷ case Sc 1 (begin 0 0 3 0 1 ∷ end 0 3 0 2 ∷ begin 0 1 3 0 2 ∷ begin 0 1 3 0 2 ∷ [])
    (taken 0 ∷ taken 0 ∷ taken 0 ∷ refused 9 0 ∷ [])
    -- 9. A place that has had a begin is not preset, ended and judged or not.
    ∷ case Sc 1 (preset 3 0 ∷ begin 0 0 3 0 1 ∷ preset 3 7 ∷ preset 2 7 ∷ preset 4 7 ∷ end 0 3 0 2 ∷ preset 3 7 ∷ report 0 ∷ settle ∷ preset 3 7 ∷ [])
    (taken 0 ∷ taken 0 ∷ refused 9 0 ∷ taken 0 ∷ taken 0 ∷ taken 0 ∷ refused 9 0 ∷ taken 0 ∷ taken 1 ∷ refused 9 0 ∷ [])
    -- 9. A begin that was refused is none.
    ∷ case Sc 1 (begin 0 2 3 0 1 ∷ preset 3 7 ∷ begin 0 0 3 7 1 ∷ begin 0 0 3 7 1 ∷ preset 4 1 ∷ [])
    (refused 5 0 ∷ taken 0 ∷ taken 0 ∷ refused 9 0 ∷ taken 0 ∷ [])
    -- 10. An end names a place that its thread has open.
    ∷ case Sc 2 (end 0 3 0 1 ∷ begin 1 0 3 0 1 ∷ end 0 3 0 2 ∷ end 1 4 0 2 ∷ end 1 3 0 2 ∷ end 1 3 0 3 ∷ [])
    (refused 10 0 ∷ taken 0 ∷ refused 10 0 ∷ refused 10 0 ∷ taken 0 ∷ refused 10 0 ∷ [])
    -- 11. A report or a drop names what is owed.
    ∷ case Sc 1 (report 0 ∷ drop 0 ∷ begin 0 0 3 0 1 ∷ report 0 ∷ end 0 3 0 2 ∷ report 1 ∷ drop 1 ∷ report 0 ∷ report 0 ∷ drop 0 ∷ [])
    (refused 11 0 ∷ refused 11 0 ∷ taken 0 ∷ refused 11 0 ∷ taken 0 ∷ refused 11 0 ∷ refused 11 0 ∷ taken 0 ∷ refused 11 0 ∷ refused 11 0 ∷ [])
    -- 11. What is judged is owed no more.
    ∷ case Sc 1 (begin 0 0 3 0 1 ∷ end 0 3 0 2 ∷ report 0 ∷ settle ∷ report 0 ∷ drop 0 ∷ close ∷ [])
    (taken 0 ∷ taken 0 ∷ taken 0 ∷ taken 1 ∷ refused 11 0 ∷ refused 11 0 ∷ clean ∷ [])
    -- 13. A close waits for what is outstanding, open and owed, and not for what is waiting.
    ∷ case Sc 1 (commit 0 0 3 0 ∷ close ∷ begin 0 0 3 0 1 ∷ perform 0 0 2 ∷ close ∷ end 0 3 0 3 ∷ close ∷ report 0 ∷ close ∷ [])
    (taken 0 ∷ refused 13 0 ∷ taken 0 ∷ taken 2 ∷ refused 13 0 ∷ taken 0 ∷ refused 13 0 ∷ taken 0 ∷ clean ∷ [])
    -- 13. A barrier of the last thread counts too.
    ∷ case Sc 2 (commit 1 2 0 0 ∷ close ∷ perform 1 0 0 ∷ close ∷ [])
    (taken 0 ∷ refused 13 0 ∷ taken 0 ∷ clean ∷ [])
    -- 13. So does an epoch of the last thread.
    ∷ case Sc 2 (begin 1 0 3 0 1 ∷ close ∷ end 1 3 0 2 ∷ close ∷ report 0 ∷ close ∷ [])
    (taken 0 ∷ refused 13 0 ∷ taken 0 ∷ refused 13 0 ∷ taken 0 ∷ clean ∷ [])
    ∷ []

abbrev pub RefusalCasesAgree : Type 0
RefusalCasesAgree = AllAgree refusal_cases

-- A refused call leaves the watch as it was, as what follows tells.
abbrev pub unchanged_cases : List Case
unchanged_cases =
    -- No number is used up.
    case Sc 1 (commit 0 18 0 0 ∷ commit 0 0 512 0 ∷ commit 0 0 3 0 ∷ commit 0 1 512 0 ∷ commit 0 0 3 0 ∷ [])
    (refused 5 0 ∷ refused 6 0 ∷ taken 0 ∷ refused 6 0 ∷ taken 1 ∷ [])
    -- No clock is moved.
    ∷ case Sc 1 (begin 0 2 3 0 9 ∷ perform 0 0 9 ∷ end 0 3 0 9 ∷ begin 0 0 512 0 9 ∷ advance 1 9 ∷ advance 0 1 ∷ advance 0 0 ∷ [])
    (refused 5 0 ∷ refused 8 0 ∷ refused 10 0 ∷ refused 6 0 ∷ refused 4 0 ∷ taken 0 ∷ refused 7 0 ∷ [])
    -- No epoch is changed by a begin that is refused.
    ∷ case Sc 1 (begin 0 0 3 4 1 ∷ begin 0 1 3 5 2 ∷ commit 0 1 3 6 ∷ perform 0 0 2 ∷ [])
    (taken 0 ∷ refused 9 0 ∷ taken 0 ∷ convicted 23 0 0 3 ∷ [])
    -- No notice is handed out or spent.
    ∷ case Sc 1 (end 0 3 0 1 ∷ begin 0 0 3 0 1 ∷ end 0 3 0 0 ∷ end 0 3 0 2 ∷ begin 0 0 3 0 2 ∷ report 5 ∷ end 0 3 0 3 ∷ report 1 ∷ report 0 ∷ [])
    (refused 10 0 ∷ taken 0 ∷ refused 7 0 ∷ taken 0 ∷ taken 0 ∷ refused 11 0 ∷ taken 1 ∷ taken 0 ∷ taken 0 ∷ [])
    -- A close that is refused closes nothing and judges nothing.
    ∷ case Sc 1 (begin 0 0 3 5 1 ∷ end 0 3 5 2 ∷ report 0 ∷ commit 0 2 0 0 ∷ close ∷ perform 0 0 3 ∷ close ∷ [])
    (taken 0 ∷ taken 0 ∷ taken 0 ∷ taken 0 ∷ refused 13 0 ∷ taken 0 ∷ convicted 28 0 0 0 ∷ [])
    ∷ []

abbrev pub UnchangedCasesAgree : Type 0
UnchangedCasesAgree = AllAgree unchanged_cases

-- Where two refusals apply the first is told, and any goes before a law.
abbrev pub check_cases : List Case
check_cases =
    -- commit: 4 before 5 and 6.
    case Sc 1 (commit 1 18 0 0 ∷ commit 1 0 512 0 ∷ commit 1 18 512 0 ∷ commit 0 18 512 0 ∷ [])
    (refused 4 0 ∷ refused 4 0 ∷ refused 4 0 ∷ refused 5 0 ∷ [])
    -- perform: 4 before 8, 7 before 8.
    ∷ case Sc 1 (perform 1 0 0 ∷ advance 0 5 ∷ perform 0 9 4 ∷ perform 0 9 5 ∷ [])
    (refused 4 0 ∷ taken 0 ∷ refused 7 0 ∷ refused 8 0 ∷ [])
    -- begin: 4 before 5, 5 before 6, 6 before 7, 7 before 9.
    ∷ case Sc 1 (advance 0 5 ∷ begin 1 2 3 0 5 ∷ begin 0 2 512 0 5 ∷ begin 0 0 512 0 4 ∷ begin 0 0 3 0 5 ∷ begin 0 0 3 0 4 ∷ begin 0 2 3 0 5 ∷ begin 0 2 3 0 4 ∷ begin 1 2 512 0 4 ∷ [])
    (taken 0 ∷ refused 4 0 ∷ refused 5 0 ∷ refused 6 0 ∷ taken 0 ∷ refused 7 0 ∷ refused 5 0 ∷ refused 5 0 ∷ refused 4 0 ∷ [])
    -- end: 4 before 6, 6 before 7, 7 before 10.
    ∷ case Sc 1 (advance 0 5 ∷ end 1 512 0 5 ∷ end 0 512 0 4 ∷ end 0 4 0 4 ∷ end 0 512 0 5 ∷ end 1 4 0 4 ∷ end 0 4 0 5 ∷ [])
    (taken 0 ∷ refused 4 0 ∷ refused 6 0 ∷ refused 7 0 ∷ refused 6 0 ∷ refused 4 0 ∷ refused 10 0 ∷ [])
    -- 7 goes before the laws of a perform.
    ∷ case Sc 1 (advance 0 5 ∷ commit 0 1 3 7 ∷ perform 0 0 4 ∷ perform 0 0 5 ∷ [])
    (taken 0 ∷ taken 0 ∷ refused 7 0 ∷ convicted 23 0 0 3 ∷ [])
    -- 7 goes before the laws of an end.
    ∷ case Sc 1 (begin 0 0 3 0 5 ∷ end 0 3 9 4 ∷ end 0 3 9 5 ∷ [])
    (taken 0 ∷ refused 7 0 ∷ convicted 25 0 3 5 ∷ [])
    -- 13 goes before the laws of a close.
    ∷ case Sc 1 (begin 0 0 3 9 1 ∷ end 0 3 9 2 ∷ report 0 ∷ begin 0 0 3 9 2 ∷ close ∷ end 0 3 9 3 ∷ report 1 ∷ close ∷ [])
    (taken 0 ∷ taken 0 ∷ taken 0 ∷ taken 0 ∷ refused 13 0 ∷ taken 1 ∷ taken 0 ∷ convicted 28 0 0 0 ∷ [])
    ∷ []

abbrev pub CheckCasesAgree : Type 0
CheckCasesAgree = AllAgree check_cases
