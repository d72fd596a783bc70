-- States that stand close to a limit, written down and not run to. Assumes nothing.
use Rattle.std.specs.Prelude.{ℕ, zero, suc, ◌+◌, ◌-◌, false, List, [], ◌∷◌, ◌++◌, replicate}
use Rattle.ordering.specs.declared.named.NamedRule.TheVariants.{Sc, Rmo}
use Rattle.semantics.specs.declared.row.Ended.{Ended}
use Rattle.semantics.specs.declared.row.Epoch.{Epoch}
use Rattle.semantics.specs.declared.row.Operation.{Operation}
use Rattle.semantics.specs.declared.verdict.Verdict.TheVariants.{Running}
use Rattle.semantics.specs.Calls.{preset, commit, perform, begin, end, report, drop, settle}
use Rattle.semantics.specs.Classes.{operation}
use Rattle.semantics.specs.Effect.{opened}
use Rattle.semantics.specs.Limits.{places}
use Rattle.semantics.specs.Puts.{marked}
use Rattle.cases.specs.Records.{taken, refused, convicted}
use Rattle.semantics.specs.State.{State, unused}
use Rattle.cases.specs.Table.{Case, case_at, AllAgree}

-- k loads of place 3, numbered from n on.
abbrev pub loads : ℕ → ℕ → List Operation
loads n zero = []
loads n (suc k) = operation n 0 3 0 ∷ loads (n + 1) k

-- One thread that has committed n operations, of which k loads are outstanding.
abbrev pub pending : ℕ → ℕ → State
pending k n = record { threads = record { clock = 0; commits = n; pending = loads 0 k; epochs = [] } ∷ []; homes = replicate places unused; owed = []; waiting = []; begins = 0; ends = 0; judged = 0; dropped = 0; verdict = Running }

-- k epochs to read, open since 1, of the places from p on.
abbrev pub reads : ℕ → ℕ → List Epoch
reads p zero = []
reads p (suc k) = opened 0 p 0 1 ∷ reads (p + 1) k

-- One thread with k open epochs, where n were begun in all and the others are judged.
abbrev pub opens : ℕ → ℕ → State
opens k n = record { threads = record { clock = 1; commits = 0; pending = []; epochs = reads 0 k } ∷ []; homes = replicate k (marked unused) ++ replicate (places - k) unused; owed = []; waiting = []; begins = n; ends = n - k; judged = n - k; dropped = 0; verdict = Running }

-- k ended reads of place 3, numbered from n on, each of which begins where the one before it ends.
abbrev pub spans : ℕ → ℕ → List Ended
spans n zero = []
spans n (suc k) = record { from = n; number = n; thread = 0; writes = false; place = 3; until = n + 1; start = 0; last = 0 } ∷ spans (n + 1) k

-- One thread at the time 200 with these epochs open, owed and waiting, n ended in all.
abbrev pub late : List Epoch → List Ended → List Ended → ℕ → State
late es o w n = record { threads = record { clock = 200; commits = 0; pending = []; epochs = es } ∷ []; homes = replicate 5 (marked unused) ++ replicate (places - 5) unused; owed = o; waiting = w; begins = n + 2; ends = n; judged = 0; dropped = 0; verdict = Running }

-- k notices are owed, and two places open.
abbrev pub owing : ℕ → State
owing k = late (opened 0 3 0 200 ∷ opened 1 4 0 200 ∷ []) (spans 0 k) [] k

-- k notices are waiting, and the next two owed.
abbrev pub queueing : ℕ → State
queueing k = late [] (spans k 2) (spans 0 k) (k + 2)

-- Each limit by its number: reached, not passed.
abbrev pub limit_cases : List Case
limit_cases =
    -- 1. The 64th outstanding operation is taken, the 65th is not, a barrier or not.
    case_at Rmo (pending 63 63) (commit 0 0 3 0 ∷ commit 0 0 3 0 ∷ commit 0 17 0 0 ∷ begin 0 0 3 0 1 ∷ perform 0 5 1 ∷ commit 0 17 0 0 ∷ commit 0 0 3 0 ∷ [])
    (taken 63 ∷ refused 12 1 ∷ refused 12 1 ∷ taken 0 ∷ taken 2 ∷ taken 64 ∷ refused 12 1 ∷ [])
    -- 1. 4, 5 and 6 go before it.
    ∷ case_at Sc (pending 64 64) (commit 1 0 3 0 ∷ commit 0 18 3 0 ∷ commit 0 0 512 0 ∷ commit 0 2 512 0 ∷ commit 0 0 3 0 ∷ [])
    (refused 4 0 ∷ refused 5 0 ∷ refused 6 0 ∷ refused 12 1 ∷ refused 12 1 ∷ [])
    -- 1 goes before 2.
    ∷ case_at Sc (pending 64 1000000) (commit 0 0 3 0 ∷ [])
    (refused 12 1 ∷ [])
    -- 2. The last number is 999,999.
    ∷ case_at Sc (pending 0 999999) (commit 0 1 3 0 ∷ commit 0 1 3 0 ∷ commit 0 17 3 0 ∷ commit 0 0 512 0 ∷ [])
    (taken 999999 ∷ refused 12 2 ∷ refused 12 2 ∷ refused 6 0 ∷ [])
    -- 2, with 63 outstanding.
    ∷ case_at Sc (pending 63 1000000) (commit 0 0 3 0 ∷ [])
    (refused 12 2 ∷ [])
    -- 3. The 32nd open epoch of a thread is taken, the 33rd is not.
    ∷ case_at Sc (opens 31 31) (begin 0 0 100 0 1 ∷ begin 0 1 101 0 1 ∷ begin 0 0 100 0 1 ∷ end 0 100 0 2 ∷ begin 0 1 101 0 2 ∷ begin 0 1 102 0 2 ∷ [])
    (taken 0 ∷ refused 12 3 ∷ refused 9 0 ∷ taken 0 ∷ taken 0 ∷ refused 12 3 ∷ [])
    -- 3. 4, 5, 6, 7 and 9 go before it.
    ∷ case_at Sc (opens 32 32) (begin 1 0 100 0 0 ∷ begin 0 2 100 0 0 ∷ begin 0 0 512 0 0 ∷ begin 0 0 100 0 0 ∷ begin 0 0 5 0 1 ∷ begin 0 0 100 0 1 ∷ [])
    (refused 4 0 ∷ refused 5 0 ∷ refused 6 0 ∷ refused 7 0 ∷ refused 9 0 ∷ refused 12 3 ∷ [])
    -- 3 goes before 4.
    ∷ case_at Sc (opens 32 1000000) (begin 0 0 100 0 1 ∷ [])
    (refused 12 3 ∷ [])
    -- 4. The last of 1,000,000 begins is taken, and none after it.
    ∷ case_at Sc (opens 31 999999) (begin 0 0 100 0 1 ∷ end 0 100 0 2 ∷ begin 0 0 100 0 2 ∷ begin 0 0 5 0 2 ∷ preset 100 7 ∷ [])
    (taken 0 ∷ taken 999968 ∷ refused 12 4 ∷ refused 9 0 ∷ refused 9 0 ∷ [])
    -- 4, with 31 open.
    ∷ case_at Sc (opens 31 1000000) (begin 0 0 100 0 1 ∷ preset 100 7 ∷ [])
    (refused 12 4 ∷ taken 0 ∷ [])
    -- 5. The 32nd owed notice is handed out, the 33rd is not.
    ∷ case_at Sc (owing 31) (end 0 3 0 201 ∷ end 0 4 0 201 ∷ end 0 5 0 201 ∷ report 0 ∷ end 0 4 0 201 ∷ report 32 ∷ report 32 ∷ [])
    (taken 31 ∷ refused 12 5 ∷ refused 10 0 ∷ taken 0 ∷ taken 32 ∷ taken 0 ∷ refused 11 0 ∷ [])
    -- 5. 4, 6, 7 and 10 go before it, and it goes before the laws.
    ∷ case_at Sc (owing 32) (end 1 3 0 199 ∷ end 0 512 0 199 ∷ end 0 3 0 199 ∷ end 0 5 0 200 ∷ end 0 3 9 200 ∷ report 31 ∷ end 0 3 9 200 ∷ [])
    (refused 4 0 ∷ refused 6 0 ∷ refused 7 0 ∷ refused 10 0 ∷ refused 12 5 ∷ taken 0 ∷ convicted 25 0 3 200 ∷ [])
    -- 6. The 128th waiting notice is taken, the 129th is not.
    ∷ case_at Sc (queueing 127) (report 127 ∷ report 128 ∷ report 0 ∷ report 128 ∷ drop 126 ∷ drop 128 ∷ [])
    (taken 0 ∷ refused 12 6 ∷ refused 11 0 ∷ refused 12 6 ∷ refused 11 0 ∷ convicted 29 0 128 3 ∷ [])
    -- 6. 11 goes before it, and what is judged makes room.
    ∷ case_at Sc (queueing 128) (report 5 ∷ report 128 ∷ settle ∷ report 128 ∷ [])
    (refused 11 0 ∷ refused 12 6 ∷ taken 128 ∷ taken 0 ∷ [])
    ∷ []

abbrev pub LimitCasesAgree : Type 0
LimitCasesAgree = AllAgree limit_cases
