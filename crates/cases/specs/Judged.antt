-- Calls that judge ended epochs. Assumes nothing.
use Rattle.std.specs.Prelude.{List, [], ◌∷◌}
use Rattle.ordering.specs.declared.named.NamedRule.TheVariants.{Sc}
use Rattle.semantics.specs.Calls.{preset, commit, perform, advance, begin, end, report, drop, settle, close}
use Rattle.cases.specs.Records.{taken, clean, refused, convicted}
use Rattle.cases.specs.Table.{Case, case, AllAgree}

-- Law 27.
abbrev pub span_cases : List Case
span_cases =
    -- A read that ends where a write begins, reported after it.
    case Sc 2 (begin 0 0 3 0 1 ∷ end 0 3 0 4 ∷ begin 1 1 3 0 4 ∷ end 1 3 0 6 ∷ report 1 ∷ report 0 ∷ close ∷ [])
    (taken 0 ∷ taken 0 ∷ taken 0 ∷ taken 1 ∷ taken 0 ∷ taken 0 ∷ clean ∷ [])
    -- A read where a write ended.
    ∷ case Sc 2 (begin 0 1 3 0 2 ∷ end 0 3 0 5 ∷ begin 1 0 3 0 5 ∷ end 1 3 0 6 ∷ report 0 ∷ report 1 ∷ close ∷ [])
    (taken 0 ∷ taken 0 ∷ taken 0 ∷ taken 1 ∷ taken 0 ∷ taken 0 ∷ clean ∷ [])
    -- 27. A read before that.
    ∷ case Sc 2 (begin 0 1 3 0 2 ∷ end 0 3 0 5 ∷ begin 1 0 3 0 4 ∷ end 1 3 0 6 ∷ report 0 ∷ report 1 ∷ close ∷ [])
    (taken 0 ∷ taken 0 ∷ taken 0 ∷ taken 1 ∷ taken 0 ∷ taken 0 ∷ convicted 27 1 1 5 ∷ [])
    -- A write where a read ended.
    ∷ case Sc 2 (begin 0 0 3 0 2 ∷ end 0 3 0 5 ∷ begin 1 1 3 0 5 ∷ end 1 3 0 9 ∷ report 0 ∷ report 1 ∷ close ∷ [])
    (taken 0 ∷ taken 0 ∷ taken 0 ∷ taken 1 ∷ taken 0 ∷ taken 0 ∷ clean ∷ [])
    -- 27. A write before that.
    ∷ case Sc 2 (begin 0 0 3 0 2 ∷ end 0 3 0 5 ∷ begin 1 1 3 0 4 ∷ end 1 3 0 9 ∷ report 0 ∷ report 1 ∷ close ∷ [])
    (taken 0 ∷ taken 0 ∷ taken 0 ∷ taken 1 ∷ taken 0 ∷ taken 0 ∷ convicted 27 1 1 5 ∷ [])
    -- 27. A write from within a write, reported before it.
    ∷ case Sc 2 (begin 0 1 3 0 2 ∷ end 0 3 0 5 ∷ begin 1 1 3 0 4 ∷ end 1 3 0 9 ∷ report 1 ∷ report 0 ∷ close ∷ [])
    (taken 0 ∷ taken 0 ∷ taken 0 ∷ taken 1 ∷ taken 0 ∷ taken 0 ∷ convicted 27 1 1 5 ∷ [])
    -- 27. Two writes from one time.
    ∷ case Sc 2 (begin 0 1 3 0 2 ∷ end 0 3 0 5 ∷ begin 1 1 3 0 2 ∷ end 1 3 0 3 ∷ report 0 ∷ report 1 ∷ close ∷ [])
    (taken 0 ∷ taken 0 ∷ taken 0 ∷ taken 1 ∷ taken 0 ∷ taken 0 ∷ convicted 27 1 1 5 ∷ [])
    -- Reads may overlap.
    ∷ case Sc 2 (begin 0 0 3 0 2 ∷ end 0 3 0 5 ∷ begin 1 0 3 0 3 ∷ end 1 3 0 9 ∷ report 0 ∷ report 1 ∷ close ∷ [])
    (taken 0 ∷ taken 0 ∷ taken 0 ∷ taken 1 ∷ taken 0 ∷ taken 0 ∷ clean ∷ [])
    -- Epochs of two places may overlap.
    ∷ case Sc 2 (begin 0 1 3 0 2 ∷ begin 1 1 4 0 2 ∷ end 0 3 0 5 ∷ end 1 4 0 5 ∷ report 0 ∷ report 1 ∷ close ∷ [])
    (taken 0 ∷ taken 0 ∷ taken 0 ∷ taken 1 ∷ taken 0 ∷ taken 0 ∷ clean ∷ [])
    -- 27. The latest read end stays when a shorter read is judged later.
    ∷ case Sc 2 (begin 0 0 3 0 1 ∷ begin 1 0 3 0 2 ∷ end 1 3 0 5 ∷ begin 1 1 3 0 6 ∷ end 1 3 0 10 ∷ end 0 3 0 9 ∷ report 0 ∷ report 1 ∷ report 2 ∷ close ∷ [])
    (taken 0 ∷ taken 0 ∷ taken 0 ∷ taken 0 ∷ taken 1 ∷ taken 2 ∷ taken 0 ∷ taken 0 ∷ taken 0 ∷ convicted 27 1 1 9 ∷ [])
    -- A write from the latest read end on.
    ∷ case Sc 2 (begin 0 0 3 0 1 ∷ begin 1 0 3 0 2 ∷ end 1 3 0 5 ∷ begin 1 1 3 0 9 ∷ end 1 3 0 10 ∷ end 0 3 0 9 ∷ report 0 ∷ report 1 ∷ report 2 ∷ close ∷ [])
    (taken 0 ∷ taken 0 ∷ taken 0 ∷ taken 0 ∷ taken 1 ∷ taken 2 ∷ taken 0 ∷ taken 0 ∷ taken 0 ∷ clean ∷ [])
    -- 27. A longer read judged later raises it.
    ∷ case Sc 2 (begin 0 0 3 0 1 ∷ end 0 3 0 3 ∷ begin 1 0 3 0 2 ∷ end 1 3 0 8 ∷ begin 0 1 3 0 5 ∷ end 0 3 0 9 ∷ report 0 ∷ report 1 ∷ report 2 ∷ close ∷ [])
    (taken 0 ∷ taken 0 ∷ taken 0 ∷ taken 1 ∷ taken 0 ∷ taken 2 ∷ taken 0 ∷ taken 0 ∷ taken 0 ∷ convicted 27 0 2 8 ∷ [])
    -- 27. A write is held to the later end, here of a write.
    ∷ case Sc 2 (begin 0 0 3 0 1 ∷ end 0 3 0 2 ∷ begin 0 1 3 0 2 ∷ end 0 3 0 8 ∷ begin 1 1 3 0 5 ∷ end 1 3 0 9 ∷ report 0 ∷ report 1 ∷ report 2 ∷ close ∷ [])
    (taken 0 ∷ taken 0 ∷ taken 0 ∷ taken 1 ∷ taken 0 ∷ taken 2 ∷ taken 0 ∷ taken 0 ∷ taken 0 ∷ convicted 27 1 2 8 ∷ [])
    -- 27. A write is held to the later end, here of a read.
    ∷ case Sc 2 (begin 0 1 3 0 1 ∷ end 0 3 0 3 ∷ begin 0 0 3 0 3 ∷ end 0 3 0 8 ∷ begin 1 1 3 0 5 ∷ end 1 3 0 9 ∷ report 0 ∷ report 1 ∷ report 2 ∷ close ∷ [])
    (taken 0 ∷ taken 0 ∷ taken 0 ∷ taken 1 ∷ taken 0 ∷ taken 2 ∷ taken 0 ∷ taken 0 ∷ taken 0 ∷ convicted 27 1 2 8 ∷ [])
    -- A read is held to the write end alone.
    ∷ case Sc 2 (begin 0 1 3 0 1 ∷ end 0 3 0 3 ∷ begin 0 0 3 0 3 ∷ end 0 3 0 8 ∷ begin 1 0 3 0 5 ∷ end 1 3 0 9 ∷ report 0 ∷ report 1 ∷ report 2 ∷ close ∷ [])
    (taken 0 ∷ taken 0 ∷ taken 0 ∷ taken 1 ∷ taken 0 ∷ taken 2 ∷ taken 0 ∷ taken 0 ∷ taken 0 ∷ clean ∷ [])
    ∷ []

abbrev pub SpanCasesAgree : Type 0
SpanCasesAgree = AllAgree span_cases

-- Law 28.
abbrev pub home_cases : List Case
home_cases =
    -- A place starts with 0, or with what was preset last.
    case Sc 1 (preset 3 6 ∷ preset 3 7 ∷ begin 0 0 3 7 1 ∷ begin 0 0 4 0 1 ∷ end 0 3 7 2 ∷ end 0 4 0 2 ∷ report 0 ∷ report 1 ∷ close ∷ [])
    (taken 0 ∷ taken 0 ∷ taken 0 ∷ taken 0 ∷ taken 0 ∷ taken 1 ∷ taken 0 ∷ taken 0 ∷ clean ∷ [])
    -- 28 names the value of the home.
    ∷ case Sc 1 (preset 3 7 ∷ begin 0 0 3 0 1 ∷ end 0 3 0 2 ∷ report 0 ∷ close ∷ [])
    (taken 0 ∷ taken 0 ∷ taken 0 ∷ taken 0 ∷ convicted 28 0 0 7 ∷ [])
    -- 28 names thread and notice.
    ∷ case Sc 2 (begin 0 0 3 0 1 ∷ end 0 3 0 2 ∷ begin 1 1 4 5 1 ∷ end 1 4 5 2 ∷ report 0 ∷ report 1 ∷ close ∷ [])
    (taken 0 ∷ taken 0 ∷ taken 0 ∷ taken 1 ∷ taken 0 ∷ taken 0 ∷ convicted 28 1 1 0 ∷ [])
    -- A write hands on its last value.
    ∷ case Sc 2 (begin 0 1 3 0 1 ∷ commit 0 1 3 9 ∷ perform 0 0 2 ∷ end 0 3 9 3 ∷ report 0 ∷ begin 1 0 3 9 3 ∷ end 1 3 9 4 ∷ report 1 ∷ close ∷ [])
    (taken 0 ∷ taken 0 ∷ taken 0 ∷ taken 0 ∷ taken 0 ∷ taken 0 ∷ taken 1 ∷ taken 0 ∷ clean ∷ [])
    -- 28, where the next epoch has the first value.
    ∷ case Sc 2 (begin 0 1 3 0 1 ∷ commit 0 1 3 9 ∷ perform 0 0 2 ∷ end 0 3 9 3 ∷ report 0 ∷ begin 1 1 3 0 3 ∷ end 1 3 0 4 ∷ report 1 ∷ close ∷ [])
    (taken 0 ∷ taken 0 ∷ taken 0 ∷ taken 0 ∷ taken 0 ∷ taken 0 ∷ taken 1 ∷ taken 0 ∷ convicted 28 1 1 9 ∷ [])
    -- The value is that of the place.
    ∷ case Sc 1 (begin 0 1 3 0 1 ∷ commit 0 1 3 9 ∷ perform 0 0 2 ∷ end 0 3 9 3 ∷ begin 0 0 4 0 3 ∷ end 0 4 0 4 ∷ report 0 ∷ report 1 ∷ close ∷ [])
    (taken 0 ∷ taken 0 ∷ taken 0 ∷ taken 0 ∷ taken 0 ∷ taken 1 ∷ taken 0 ∷ taken 0 ∷ clean ∷ [])
    -- 27 goes before 28.
    ∷ case Sc 2 (begin 0 1 3 0 2 ∷ end 0 3 0 5 ∷ begin 1 0 3 9 4 ∷ end 1 3 9 6 ∷ report 0 ∷ report 1 ∷ close ∷ [])
    (taken 0 ∷ taken 0 ∷ taken 0 ∷ taken 1 ∷ taken 0 ∷ taken 0 ∷ convicted 27 1 1 5 ∷ [])
    ∷ []

abbrev pub HomeCasesAgree : Type 0
HomeCasesAgree = AllAgree home_cases

-- In which order the waiting are judged: the first that breaks a law is named.
abbrev pub turn_cases : List Case
turn_cases =
    -- By begin, whatever the numbers and the reports.
    case Sc 2 (begin 0 0 3 5 4 ∷ end 0 3 5 5 ∷ begin 1 0 4 6 2 ∷ end 1 4 6 5 ∷ report 0 ∷ report 1 ∷ close ∷ [])
    (taken 0 ∷ taken 0 ∷ taken 0 ∷ taken 1 ∷ taken 0 ∷ taken 0 ∷ convicted 28 1 1 0 ∷ [])
    -- At one begin by number, reported first to last.
    ∷ case Sc 2 (begin 0 0 3 5 2 ∷ begin 1 0 4 6 2 ∷ end 1 4 6 3 ∷ end 0 3 5 3 ∷ report 0 ∷ report 1 ∷ close ∷ [])
    (taken 0 ∷ taken 0 ∷ taken 0 ∷ taken 1 ∷ taken 0 ∷ taken 0 ∷ convicted 28 1 0 0 ∷ [])
    -- At one begin by number, reported last to first.
    ∷ case Sc 2 (begin 0 0 3 5 2 ∷ begin 1 0 4 6 2 ∷ end 1 4 6 3 ∷ end 0 3 5 3 ∷ report 1 ∷ report 0 ∷ close ∷ [])
    (taken 0 ∷ taken 0 ∷ taken 0 ∷ taken 1 ∷ taken 0 ∷ taken 0 ∷ convicted 28 1 0 0 ∷ [])
    -- In the middle of the waiting.
    ∷ case Sc 2 (begin 0 0 3 0 2 ∷ end 0 3 0 3 ∷ begin 0 0 3 5 4 ∷ end 0 3 5 5 ∷ begin 1 0 4 6 3 ∷ end 1 4 6 4 ∷ report 1 ∷ report 0 ∷ report 2 ∷ close ∷ [])
    (taken 0 ∷ taken 0 ∷ taken 0 ∷ taken 1 ∷ taken 0 ∷ taken 2 ∷ taken 0 ∷ taken 0 ∷ taken 0 ∷ convicted 28 1 2 0 ∷ [])
    -- By settle too.
    ∷ case Sc 2 (begin 0 0 3 0 1 ∷ end 0 3 0 4 ∷ begin 1 1 3 0 4 ∷ end 1 3 0 6 ∷ report 1 ∷ settle ∷ report 0 ∷ advance 0 6 ∷ settle ∷ close ∷ [])
    (taken 0 ∷ taken 0 ∷ taken 0 ∷ taken 1 ∷ taken 0 ∷ taken 0 ∷ taken 0 ∷ taken 0 ∷ taken 2 ∷ clean ∷ [])
    ∷ []

abbrev pub TurnCasesAgree : Type 0
TurnCasesAgree = AllAgree turn_cases

-- What a settle judges, and what a close leaves.
abbrev pub settle_cases : List Case
settle_cases =
    -- The safe time is not past any clock, also one that never moved, and a begin lies before it.
    case Sc 2 (begin 0 0 3 0 1 ∷ end 0 3 0 5 ∷ report 0 ∷ settle ∷ advance 1 1 ∷ settle ∷ advance 1 2 ∷ settle ∷ settle ∷ [])
    (taken 0 ∷ taken 0 ∷ taken 0 ∷ taken 0 ∷ taken 0 ∷ taken 0 ∷ taken 0 ∷ taken 1 ∷ taken 0 ∷ [])
    -- So it is with the first clock.
    ∷ case Sc 2 (begin 1 0 3 0 1 ∷ end 1 3 0 5 ∷ report 0 ∷ settle ∷ advance 0 1 ∷ settle ∷ advance 0 2 ∷ settle ∷ [])
    (taken 0 ∷ taken 0 ∷ taken 0 ∷ taken 0 ∷ taken 0 ∷ taken 0 ∷ taken 0 ∷ taken 1 ∷ [])
    -- And with one between others.
    ∷ case Sc 3 (begin 0 0 3 0 1 ∷ end 0 3 0 5 ∷ report 0 ∷ advance 2 4 ∷ settle ∷ advance 1 2 ∷ settle ∷ [])
    (taken 0 ∷ taken 0 ∷ taken 0 ∷ taken 0 ∷ taken 0 ∷ taken 0 ∷ taken 1 ∷ [])
    -- It is not past the begin of an open epoch, or of an owed one.
    ∷ case Sc 1 (begin 0 0 3 0 2 ∷ begin 0 0 4 0 2 ∷ end 0 3 0 5 ∷ report 0 ∷ settle ∷ end 0 4 0 6 ∷ settle ∷ report 1 ∷ settle ∷ [])
    (taken 0 ∷ taken 0 ∷ taken 0 ∷ taken 0 ∷ taken 0 ∷ taken 1 ∷ taken 0 ∷ taken 0 ∷ taken 2 ∷ [])
    -- A begin before that of an open epoch.
    ∷ case Sc 1 (begin 0 0 3 0 2 ∷ begin 0 0 4 0 3 ∷ end 0 3 0 5 ∷ report 0 ∷ settle ∷ [])
    (taken 0 ∷ taken 0 ∷ taken 0 ∷ taken 0 ∷ taken 1 ∷ [])
    -- A begin before that of an owed epoch.
    ∷ case Sc 1 (begin 0 0 3 0 2 ∷ end 0 3 0 3 ∷ begin 0 0 4 0 3 ∷ end 0 4 0 4 ∷ report 0 ∷ settle ∷ report 1 ∷ settle ∷ [])
    (taken 0 ∷ taken 0 ∷ taken 0 ∷ taken 1 ∷ taken 0 ∷ taken 1 ∷ taken 0 ∷ taken 1 ∷ [])
    -- A begin after that of an owed epoch.
    ∷ case Sc 1 (begin 0 0 3 0 2 ∷ end 0 3 0 3 ∷ begin 0 0 4 0 3 ∷ end 0 4 0 4 ∷ report 1 ∷ settle ∷ report 0 ∷ settle ∷ [])
    (taken 0 ∷ taken 0 ∷ taken 0 ∷ taken 1 ∷ taken 0 ∷ taken 0 ∷ taken 0 ∷ taken 2 ∷ [])
    -- The open epochs of other threads count.
    ∷ case Sc 2 (begin 1 0 4 0 2 ∷ advance 1 9 ∷ begin 0 0 3 0 2 ∷ end 0 3 0 9 ∷ report 0 ∷ settle ∷ end 1 4 0 10 ∷ settle ∷ report 1 ∷ settle ∷ [])
    (taken 0 ∷ taken 0 ∷ taken 0 ∷ taken 0 ∷ taken 0 ∷ taken 0 ∷ taken 1 ∷ taken 0 ∷ taken 0 ∷ taken 2 ∷ [])
    -- What counts is where an open epoch begins, not its last use.
    ∷ case Sc 1 (begin 0 0 4 0 2 ∷ begin 0 0 3 0 3 ∷ commit 0 0 4 0 ∷ perform 0 0 5 ∷ end 0 3 0 6 ∷ report 0 ∷ settle ∷ end 0 4 0 7 ∷ report 1 ∷ settle ∷ [])
    (taken 0 ∷ taken 0 ∷ taken 0 ∷ taken 2 ∷ taken 0 ∷ taken 0 ∷ taken 0 ∷ taken 1 ∷ taken 0 ∷ taken 2 ∷ [])
    -- The answer is how many were judged.
    ∷ case Sc 2 (begin 0 0 3 0 1 ∷ end 0 3 0 2 ∷ report 0 ∷ begin 0 0 3 0 2 ∷ end 0 3 0 5 ∷ report 1 ∷ begin 0 0 3 0 5 ∷ end 0 3 0 6 ∷ report 2 ∷ advance 1 5 ∷ settle ∷ [])
    (taken 0 ∷ taken 0 ∷ taken 0 ∷ taken 0 ∷ taken 1 ∷ taken 0 ∷ taken 0 ∷ taken 2 ∷ taken 0 ∷ taken 0 ∷ taken 2 ∷ [])
    -- What is not due convicts nobody.
    ∷ case Sc 2 (begin 0 0 3 0 1 ∷ end 0 3 0 2 ∷ report 0 ∷ begin 0 0 3 9 5 ∷ end 0 3 9 6 ∷ report 1 ∷ advance 1 5 ∷ settle ∷ close ∷ [])
    (taken 0 ∷ taken 0 ∷ taken 0 ∷ taken 0 ∷ taken 1 ∷ taken 0 ∷ taken 0 ∷ taken 1 ∷ convicted 28 0 1 0 ∷ [])
    -- 28, by a settle.
    ∷ case Sc 1 (begin 0 0 3 9 1 ∷ end 0 3 9 2 ∷ report 0 ∷ settle ∷ settle ∷ close ∷ drop 0 ∷ [])
    (taken 0 ∷ taken 0 ∷ taken 0 ∷ convicted 28 0 0 0 ∷ refused 2 0 ∷ refused 2 0 ∷ refused 11 0 ∷ [])
    -- 27, by a settle, against what an earlier one judged.
    ∷ case Sc 2 (begin 0 1 3 0 1 ∷ end 0 3 0 5 ∷ report 0 ∷ advance 1 4 ∷ settle ∷ begin 1 0 3 0 4 ∷ end 1 3 0 6 ∷ report 1 ∷ settle ∷ [])
    (taken 0 ∷ taken 0 ∷ taken 0 ∷ taken 0 ∷ taken 1 ∷ taken 0 ∷ taken 1 ∷ taken 0 ∷ convicted 27 1 1 5 ∷ [])
    -- A close that convicts leaves the watch convicted, not closed.
    ∷ case Sc 1 (begin 0 0 3 9 1 ∷ end 0 3 9 2 ∷ report 0 ∷ close ∷ close ∷ settle ∷ commit 0 0 3 0 ∷ drop 0 ∷ [])
    (taken 0 ∷ taken 0 ∷ taken 0 ∷ convicted 28 0 0 0 ∷ refused 2 0 ∷ refused 2 0 ∷ refused 2 0 ∷ refused 11 0 ∷ [])
    -- A settle of nothing.
    ∷ case Sc 1 (settle ∷ close ∷ settle ∷ [])
    (taken 0 ∷ clean ∷ refused 3 0 ∷ [])
    ∷ []

abbrev pub SettleCasesAgree : Type 0
SettleCasesAgree = AllAgree settle_cases
