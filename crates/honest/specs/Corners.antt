-- Why each clause of the machine and of a record is there: lists that break one clause alone, some that break none, and what a watch answers. Assumes nothing.
use Rattle.std.specs.Prelude.{◌≡◌, ℕ, false, List, [], ◌∷◌}
use Rattle.semantics.specs.declared.verdict.Law.{Law}
use Rattle.semantics.specs.declared.verdict.Law.TheVariants.{SamePlace, Ordered, WrongValue, EndTooEarly, Overlap, WrongBeginValue}
use Rattle.semantics.specs.declared.verdict.Refusal.TheVariants.{PastTime, NotOwed, Unfinished}
use Rattle.semantics.specs.Calls.{Call, preset, commit, perform, advance, begin, end, report, settle, close, Answer, taken, refused, convicted}
use Rattle.semantics.specs.Calls
use Rattle.semantics.specs.Laws.{Rule, by_rule}
use Rattle.semantics.specs.State.{made}
use Rattle.semantics.specs.Step.{answers}
use Rattle.honest.specs.Examples.{tso}

-- A watch of n threads under a rule answers these calls so.
abbrev pub Answers : Rule → ℕ → List Call → List Answer → Type 0
Answers R n calls told = answers (by_rule R) (made n) calls ≡ told

abbrev pub against : Law → ℕ → ℕ → ℕ → Answer
against l t k o = convicted (record { law = l; thread = t; number = k; other = o })

-- Times rise in each thread and fall in the run: thread 0 writes from 10 to 20, and then thread 1 reads what it wrote from 1 to 3.
abbrev pub TimesFall : Type 0
TimesFall =
    Answers tso 2 (preset 5 2 ∷ commit 0 1 5 9 ∷ begin 0 1 5 2 10 ∷ perform 0 0 11 ∷ end 0 5 9 20 ∷ report 0 ∷ begin 1 0 5 9 1 ∷ end 1 5 9 3 ∷ report 1 ∷ close ∷ [])
    (taken 0 ∷ taken 0 ∷ taken 0 ∷ taken 0 ∷ taken 0 ∷ taken 0 ∷ taken 0 ∷ taken 1 ∷ taken 0 ∷ against WrongBeginValue 1 1 2 ∷ [])

-- A place is given back at the time of its last use.
abbrev pub GivenAtUse : Type 0
GivenAtUse = Answers tso 1 (commit 0 1 5 9 ∷ begin 0 1 5 0 1 ∷ perform 0 0 4 ∷ end 0 5 9 4 ∷ []) (taken 0 ∷ taken 0 ∷ taken 0 ∷ against EndTooEarly 0 5 4 ∷ [])

-- An advance goes past the thread's next time.
abbrev pub AdvancedPast : Type 0
AdvancedPast = Answers tso 1 (advance 0 4 ∷ begin 0 0 5 0 3 ∷ []) (taken 0 ∷ refused PastTime ∷ [])

-- A thread takes a place to read it while another holds it to write it.
abbrev pub ReadBesideWriter : Type 0
ReadBesideWriter =
    Answers tso 2 (commit 0 1 5 9 ∷ begin 0 1 5 0 1 ∷ perform 0 0 2 ∷ begin 1 0 5 9 3 ∷ end 0 5 9 4 ∷ end 1 5 9 5 ∷ report 0 ∷ report 1 ∷ close ∷ [])
    (taken 0 ∷ taken 0 ∷ taken 0 ∷ taken 0 ∷ taken 0 ∷ taken 1 ∷ taken 0 ∷ taken 0 ∷ against Overlap 1 1 4 ∷ [])

-- A store performs past an own load of its place, under a rule that orders nothing.
abbrev pub StorePastLoad : Type 0
StorePastLoad = Answers (λ a b. false) 1 (commit 0 0 5 0 ∷ commit 0 1 5 9 ∷ begin 0 1 5 0 1 ∷ perform 0 1 2 ∷ []) (taken 0 ∷ taken 1 ∷ taken 0 ∷ against SamePlace 0 1 0 ∷ [])

-- A load gets the memory's value over its thread's pending store.
abbrev pub LoadPastStore : Type 0
LoadPastStore = Answers tso 1 (commit 0 1 5 9 ∷ commit 0 0 5 0 ∷ begin 0 1 5 0 1 ∷ perform 0 1 2 ∷ []) (taken 0 ∷ taken 1 ∷ taken 0 ∷ against WrongValue 0 1 9 ∷ [])

-- A barrier, store-store, performs past a store that the rule orders before it.
abbrev pub BarrierPastStore : Type 0
BarrierPastStore = Answers tso 1 (commit 0 1 5 9 ∷ commit 0 10 0 0 ∷ perform 0 1 2 ∷ []) (taken 0 ∷ taken 1 ∷ against Ordered 0 1 0 ∷ [])

-- A notice is reported twice; one is not reported at all.
abbrev pub ReportedTwice : Type 0
ReportedTwice = Answers tso 1 (begin 0 0 5 0 1 ∷ end 0 5 0 2 ∷ report 0 ∷ report 0 ∷ []) (taken 0 ∷ taken 0 ∷ taken 0 ∷ refused NotOwed ∷ [])

abbrev pub NotReported : Type 0
NotReported = Answers tso 1 (begin 0 0 5 0 1 ∷ end 0 5 0 2 ∷ close ∷ []) (taken 0 ∷ taken 0 ∷ refused Unfinished ∷ [])

-- The others break no clause. Two threads read a place at a time.
abbrev pub TwoReaders : Type 0
TwoReaders =
    Answers tso 2 (begin 0 0 5 0 1 ∷ begin 1 0 5 0 2 ∷ end 1 5 0 4 ∷ end 0 5 0 6 ∷ report 0 ∷ report 1 ∷ close ∷ [])
    (taken 0 ∷ taken 0 ∷ taken 0 ∷ taken 1 ∷ taken 0 ∷ taken 0 ∷ Calls.clean ∷ [])

-- A place is given back at the time of a load there that got its value from a pending store, which is no use of the place.
abbrev pub GivenAtEarlyLoad : Type 0
GivenAtEarlyLoad =
    Answers tso 1
    (commit 0 1 5 9 ∷ commit 0 0 5 9 ∷ begin 0 0 5 0 1 ∷ perform 0 1 3 ∷ end 0 5 0 3 ∷ report 0 ∷ begin 0 1 5 0 4 ∷ perform 0 0 4 ∷ end 0 5 9 5 ∷ report 1 ∷ close ∷ [])
    (taken 0 ∷ taken 1 ∷ taken 0 ∷ taken 1 ∷ taken 0 ∷ taken 0 ∷ taken 0 ∷ taken 0 ∷ taken 1 ∷ taken 0 ∷ Calls.clean ∷ [])

-- A read from 1 to 4 is reported after a write from 4 to 6, with settles between: nothing is judged too soon.
abbrev pub LateReport : Type 0
LateReport =
    Answers tso 2
    (commit 0 1 5 9 ∷ begin 0 1 5 0 4 ∷ perform 0 0 5 ∷ end 0 5 9 6 ∷ report 0 ∷ settle ∷ begin 1 0 5 0 1 ∷ settle ∷ end 1 5 0 4 ∷ settle ∷ report 1 ∷ settle ∷ close ∷ [])
    (taken 0 ∷ taken 0 ∷ taken 0 ∷ taken 0 ∷ taken 0 ∷ taken 0 ∷ taken 0 ∷ taken 0 ∷ taken 1 ∷ taken 0 ∷ taken 0 ∷ taken 1 ∷ Calls.clean ∷ [])

abbrev pub Corners : Type 0
Corners = TimesFall × GivenAtUse × AdvancedPast × ReadBesideWriter × StorePastLoad × LoadPastStore × BarrierPastStore × ReportedTwice × NotReported
    × TwoReaders × GivenAtEarlyLoad × LateReport
