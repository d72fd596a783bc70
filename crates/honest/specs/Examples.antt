-- Two lists of calls that record a run of the memory machine. Assumes nothing.
use Rattle.std.specs.Prelude.{List, [], ◌∷◌}
use Rattle.ordering.specs.Named.{named_orders}
use Rattle.ordering.specs.declared.named.NamedRule.TheVariants.{Tso}
use Rattle.semantics.specs.Calls.{Call, preset, commit, perform, advance, begin, end, report, settle, close}
use Rattle.semantics.specs.Laws.{Rule}
use Rattle.honest.specs.Honest.{Honest}

-- The rule of the examples.
abbrev pub tso : Rule
tso = named_orders Tso

-- A load of place 4 performs before an earlier store to place 3. Each notice is reported right after its end.
abbrev pub worked : List Call
worked =
    commit 0 1 3 7 ∷ commit 0 0 4 0 ∷ begin 0 0 4 0 1 ∷ perform 0 1 2 ∷ begin 0 1 3 0 3 ∷ perform 0 0 4
    ∷ end 0 4 0 5 ∷ report 0 ∷ end 0 3 7 5 ∷ report 1 ∷ close ∷ []

-- Thread 0 writes 9 to place 5 from 1 to 4, and thread 1 reads it from 4 to 6. The list has thread 1's calls first, far ahead of the run,
-- with advances, settles while epochs are open and owed, and late reports.
abbrev pub mixed : List Call
mixed =
    preset 5 2 ∷ settle ∷ preset 6 8
    ∷ commit 1 0 5 9 ∷ advance 1 3 ∷ begin 1 0 5 9 4 ∷ perform 1 0 5 ∷ end 1 5 9 6
    ∷ settle ∷ report 0
    ∷ commit 0 1 5 9 ∷ settle ∷ begin 0 1 5 2 1 ∷ perform 0 0 2 ∷ end 0 5 9 4 ∷ advance 0 9 ∷ settle ∷ report 1 ∷ settle ∷ close ∷ []

abbrev pub WorkedIsARecord : Type 0
WorkedIsARecord = Honest tso 2 worked

abbrev pub MixedIsARecord : Type 0
MixedIsARecord = Honest tso 2 mixed
