-- Calls that perform operations, with the laws of a perform. Assumes nothing.
use Rattle.std.specs.Prelude.{List, [], ◌∷◌}
use Rattle.ordering.specs.declared.named.NamedRule.TheVariants.{Sc, Tso, Pso, Rmo}
use Rattle.semantics.specs.Calls.{commit, perform, begin, end}
use Rattle.cases.specs.Records.{taken, refused, convicted}
use Rattle.cases.specs.Table.{Case, case, AllAgree}

-- Law 21.
abbrev pub place_cases : List Case
place_cases =
    -- 21. An earlier load to the place is outstanding.
    case Rmo 1 (commit 0 0 3 0 ∷ commit 0 1 3 7 ∷ begin 0 1 3 0 1 ∷ perform 0 1 2 ∷ [])
    (taken 0 ∷ taken 1 ∷ taken 0 ∷ convicted 21 0 1 0 ∷ [])
    -- 21. An earlier store is; the thread is named.
    ∷ case Rmo 2 (commit 1 1 3 5 ∷ commit 1 1 3 7 ∷ begin 1 1 3 0 1 ∷ perform 1 1 2 ∷ [])
    (taken 0 ∷ taken 1 ∷ taken 0 ∷ convicted 21 1 1 0 ∷ [])
    -- 21 names the oldest of the place.
    ∷ case Rmo 1 (commit 0 1 4 9 ∷ commit 0 0 3 0 ∷ commit 0 1 3 5 ∷ commit 0 1 3 7 ∷ begin 0 1 3 0 1 ∷ perform 0 3 2 ∷ [])
    (taken 0 ∷ taken 1 ∷ taken 2 ∷ taken 3 ∷ taken 0 ∷ convicted 21 0 3 1 ∷ [])
    -- What is to another place, later, or of another thread does not count.
    ∷ case Rmo 2 (commit 0 1 4 9 ∷ commit 0 1 3 7 ∷ commit 0 1 3 8 ∷ commit 1 1 3 9 ∷ begin 0 1 3 0 1 ∷ perform 0 1 2 ∷ perform 0 2 2 ∷ [])
    (taken 0 ∷ taken 1 ∷ taken 2 ∷ taken 0 ∷ taken 0 ∷ taken 0 ∷ taken 0 ∷ [])
    -- 21 is not for a load.
    ∷ case Rmo 1 (commit 0 0 3 0 ∷ commit 0 0 3 0 ∷ begin 0 0 3 0 1 ∷ perform 0 1 2 ∷ perform 0 0 2 ∷ [])
    (taken 0 ∷ taken 1 ∷ taken 0 ∷ taken 2 ∷ taken 2 ∷ [])
    -- A barrier has no place: none before a store to place 0, or to the place that its commit gave.
    ∷ case Rmo 1 (commit 0 2 3 0 ∷ commit 0 1 0 7 ∷ commit 0 1 3 8 ∷ begin 0 1 0 0 1 ∷ begin 0 1 3 0 1 ∷ perform 0 1 2 ∷ perform 0 2 2 ∷ [])
    (taken 0 ∷ taken 1 ∷ taken 2 ∷ taken 0 ∷ taken 0 ∷ taken 0 ∷ taken 0 ∷ [])
    -- None after a store to place 0 either.
    ∷ case Rmo 1 (commit 0 1 0 7 ∷ commit 0 2 0 0 ∷ perform 0 1 2 ∷ [])
    (taken 0 ∷ taken 1 ∷ taken 0 ∷ [])
    -- 21 goes before 22, which would name another.
    ∷ case Sc 1 (commit 0 1 4 9 ∷ commit 0 1 3 5 ∷ commit 0 1 3 7 ∷ begin 0 1 3 0 1 ∷ perform 0 2 2 ∷ [])
    (taken 0 ∷ taken 1 ∷ taken 2 ∷ taken 0 ∷ convicted 21 0 2 1 ∷ [])
    -- 21 goes before 23.
    ∷ case Rmo 1 (commit 0 1 3 5 ∷ commit 0 1 3 7 ∷ perform 0 1 2 ∷ [])
    (taken 0 ∷ taken 1 ∷ convicted 21 0 1 0 ∷ [])
    ∷ []

abbrev pub PlaceCasesAgree : Type 0
PlaceCasesAgree = AllAgree place_cases

-- Law 22.
abbrev pub order_cases : List Case
order_cases =
    -- 22 goes before 23, for a load.
    case Sc 1 (commit 0 1 3 7 ∷ commit 0 0 4 0 ∷ perform 0 1 2 ∷ [])
    (taken 0 ∷ taken 1 ∷ convicted 22 0 1 0 ∷ [])
    -- 22 goes before 23, for a store.
    ∷ case Tso 1 (commit 0 0 4 0 ∷ commit 0 1 3 7 ∷ perform 0 1 2 ∷ [])
    (taken 0 ∷ taken 1 ∷ convicted 22 0 1 0 ∷ [])
    -- 22 goes before 24.
    ∷ case Sc 1 (commit 0 1 3 7 ∷ commit 0 0 4 5 ∷ begin 0 0 4 0 1 ∷ perform 0 1 2 ∷ [])
    (taken 0 ∷ taken 1 ∷ taken 0 ∷ convicted 22 0 1 0 ∷ [])
    -- 22 names the oldest that is ordered.
    ∷ case Tso 1 (commit 0 1 3 7 ∷ commit 0 0 4 0 ∷ commit 0 0 5 0 ∷ commit 0 0 6 0 ∷ begin 0 0 6 0 1 ∷ perform 0 3 2 ∷ [])
    (taken 0 ∷ taken 1 ∷ taken 2 ∷ taken 3 ∷ taken 0 ∷ convicted 22 0 3 1 ∷ [])
    -- 22 names the thread.
    ∷ case Sc 3 (commit 2 0 3 0 ∷ commit 2 0 4 0 ∷ begin 2 0 4 0 1 ∷ perform 2 1 1 ∷ [])
    (taken 0 ∷ taken 1 ∷ taken 0 ∷ convicted 22 2 1 0 ∷ [])
    -- What is later or of another thread does not count.
    ∷ case Sc 2 (commit 0 0 3 0 ∷ commit 0 1 4 0 ∷ commit 1 0 4 0 ∷ begin 0 0 3 0 1 ∷ begin 1 0 4 0 1 ∷ perform 1 0 1 ∷ perform 0 0 2 ∷ [])
    (taken 0 ∷ taken 1 ∷ taken 0 ∷ taken 0 ∷ taken 0 ∷ taken 2 ∷ taken 2 ∷ [])
    -- What performed does not count.
    ∷ case Sc 1 (commit 0 0 3 0 ∷ commit 0 0 3 0 ∷ begin 0 0 3 0 1 ∷ perform 0 0 1 ∷ perform 0 1 1 ∷ [])
    (taken 0 ∷ taken 1 ∷ taken 0 ∷ taken 2 ∷ taken 2 ∷ [])
    -- A forwarded load is ordered like any other.
    ∷ case Sc 1 (commit 0 1 3 7 ∷ commit 0 0 3 7 ∷ perform 0 1 1 ∷ [])
    (taken 0 ∷ taken 1 ∷ convicted 22 0 1 0 ∷ [])
    -- Two stores, under tso.
    ∷ case Tso 1 (commit 0 1 4 9 ∷ commit 0 1 3 7 ∷ begin 0 1 3 0 1 ∷ perform 0 1 2 ∷ [])
    (taken 0 ∷ taken 1 ∷ taken 0 ∷ convicted 22 0 1 0 ∷ [])
    -- Two stores, under pso.
    ∷ case Pso 1 (commit 0 1 4 9 ∷ commit 0 1 3 7 ∷ begin 0 1 3 0 1 ∷ perform 0 1 2 ∷ [])
    (taken 0 ∷ taken 1 ∷ taken 0 ∷ taken 0 ∷ [])
    -- A load and a store, under pso.
    ∷ case Pso 1 (commit 0 0 4 0 ∷ commit 0 1 3 7 ∷ begin 0 1 3 0 1 ∷ perform 0 1 2 ∷ [])
    (taken 0 ∷ taken 1 ∷ taken 0 ∷ convicted 22 0 1 0 ∷ [])
    -- A load and a store, under rmo.
    ∷ case Rmo 1 (commit 0 0 4 0 ∷ commit 0 1 3 7 ∷ begin 0 1 3 0 1 ∷ perform 0 1 2 ∷ [])
    (taken 0 ∷ taken 1 ∷ taken 0 ∷ taken 0 ∷ [])
    -- A store is before a barrier of store-load.
    ∷ case Rmo 1 (commit 0 1 3 7 ∷ commit 0 4 0 0 ∷ perform 0 1 1 ∷ [])
    (taken 0 ∷ taken 1 ∷ convicted 22 0 1 0 ∷ [])
    -- A store is not before a barrier of load-load.
    ∷ case Rmo 1 (commit 0 1 3 7 ∷ commit 0 3 0 0 ∷ perform 0 1 1 ∷ perform 0 1 1 ∷ [])
    (taken 0 ∷ taken 1 ∷ taken 0 ∷ refused 8 0 ∷ [])
    -- A barrier of store-load is before a load.
    ∷ case Rmo 1 (commit 0 4 0 0 ∷ commit 0 0 3 0 ∷ begin 0 0 3 0 1 ∷ perform 0 1 2 ∷ [])
    (taken 0 ∷ taken 1 ∷ taken 0 ∷ convicted 22 0 1 0 ∷ [])
    -- A barrier of load-store is not before a load, and is before a store.
    ∷ case Rmo 1 (commit 0 6 0 0 ∷ commit 0 0 3 0 ∷ commit 0 1 4 5 ∷ begin 0 1 3 0 1 ∷ begin 0 1 4 0 1 ∷ perform 0 1 2 ∷ perform 0 2 2 ∷ [])
    (taken 0 ∷ taken 1 ∷ taken 2 ∷ taken 0 ∷ taken 0 ∷ taken 2 ∷ convicted 22 0 2 0 ∷ [])
    -- Two barriers are not ordered.
    ∷ case Sc 1 (commit 0 17 0 0 ∷ commit 0 17 0 0 ∷ perform 0 1 1 ∷ perform 0 0 1 ∷ [])
    (taken 0 ∷ taken 1 ∷ taken 0 ∷ taken 0 ∷ [])
    ∷ []

abbrev pub OrderCasesAgree : Type 0
OrderCasesAgree = AllAgree order_cases

-- Law 23.
abbrev pub leave_cases : List Case
leave_cases =
    -- 23. A store with no epoch; the place is named.
    case Rmo 1 (commit 0 1 3 7 ∷ perform 0 0 1 ∷ [])
    (taken 0 ∷ convicted 23 0 0 3 ∷ [])
    -- 23. A store with an epoch to read.
    ∷ case Rmo 1 (commit 0 1 3 7 ∷ begin 0 0 3 0 1 ∷ perform 0 0 1 ∷ [])
    (taken 0 ∷ taken 0 ∷ convicted 23 0 0 3 ∷ [])
    -- 23. A store with an epoch of another place.
    ∷ case Rmo 1 (commit 0 1 3 7 ∷ begin 0 1 4 0 1 ∷ perform 0 0 1 ∷ [])
    (taken 0 ∷ taken 0 ∷ convicted 23 0 0 3 ∷ [])
    -- 23. A store with an epoch of another thread.
    ∷ case Rmo 2 (commit 1 1 3 7 ∷ begin 0 1 3 0 1 ∷ perform 1 0 1 ∷ [])
    (taken 0 ∷ taken 0 ∷ convicted 23 1 0 3 ∷ [])
    -- 23. A store after its epoch.
    ∷ case Rmo 1 (commit 0 1 3 7 ∷ begin 0 1 3 0 1 ∷ end 0 3 0 2 ∷ perform 0 0 3 ∷ [])
    (taken 0 ∷ taken 0 ∷ taken 0 ∷ convicted 23 0 0 3 ∷ [])
    -- A store with its epoch to write, at the begin.
    ∷ case Rmo 1 (commit 0 1 3 7 ∷ begin 0 1 3 0 1 ∷ perform 0 0 1 ∷ [])
    (taken 0 ∷ taken 0 ∷ taken 0 ∷ [])
    -- 23. A load with neither store nor epoch.
    ∷ case Rmo 1 (commit 0 0 3 0 ∷ perform 0 0 1 ∷ [])
    (taken 0 ∷ convicted 23 0 0 3 ∷ [])
    -- 23. A load with an epoch of another place.
    ∷ case Rmo 1 (commit 0 0 3 0 ∷ begin 0 1 4 0 1 ∷ perform 0 0 1 ∷ [])
    (taken 0 ∷ taken 0 ∷ convicted 23 0 0 3 ∷ [])
    -- 23. A load with an epoch of another thread.
    ∷ case Rmo 2 (commit 0 0 3 0 ∷ begin 1 0 3 0 1 ∷ perform 0 0 1 ∷ [])
    (taken 0 ∷ taken 0 ∷ convicted 23 0 0 3 ∷ [])
    -- 23. A load after its epoch.
    ∷ case Rmo 1 (commit 0 0 3 0 ∷ begin 0 0 3 0 1 ∷ end 0 3 0 2 ∷ perform 0 0 2 ∷ [])
    (taken 0 ∷ taken 0 ∷ taken 0 ∷ convicted 23 0 0 3 ∷ [])
    -- A load with an epoch of either kind.
    ∷ case Rmo 1 (commit 0 0 3 0 ∷ commit 0 0 4 0 ∷ begin 0 0 3 0 1 ∷ begin 0 1 4 0 1 ∷ perform 0 0 1 ∷ perform 0 1 1 ∷ [])
    (taken 0 ∷ taken 1 ∷ taken 0 ∷ taken 0 ∷ taken 2 ∷ taken 2 ∷ [])
    -- 23. An outstanding load is no source.
    ∷ case Rmo 1 (commit 0 0 3 0 ∷ commit 0 0 3 0 ∷ perform 0 1 1 ∷ [])
    (taken 0 ∷ taken 1 ∷ convicted 23 0 1 3 ∷ [])
    -- 23. A store to another place is no source.
    ∷ case Rmo 1 (commit 0 1 4 7 ∷ commit 0 0 3 7 ∷ perform 0 1 1 ∷ [])
    (taken 0 ∷ taken 1 ∷ convicted 23 0 1 3 ∷ [])
    -- 23. A store of another thread is no source.
    ∷ case Rmo 2 (commit 1 1 3 7 ∷ commit 0 0 3 7 ∷ perform 0 0 1 ∷ [])
    (taken 0 ∷ taken 0 ∷ convicted 23 0 0 3 ∷ [])
    -- 23. A later store is no source.
    ∷ case Rmo 1 (commit 0 0 3 7 ∷ commit 0 1 3 7 ∷ perform 0 0 1 ∷ [])
    (taken 0 ∷ taken 1 ∷ convicted 23 0 0 3 ∷ [])
    -- 23. A store that performed, in an epoch that ended, is no source.
    ∷ case Rmo 1 (commit 0 1 3 7 ∷ commit 0 0 3 7 ∷ begin 0 1 3 0 1 ∷ perform 0 0 2 ∷ end 0 3 7 3 ∷ perform 0 1 3 ∷ [])
    (taken 0 ∷ taken 1 ∷ taken 0 ∷ taken 0 ∷ taken 0 ∷ convicted 23 0 1 3 ∷ [])
    -- A barrier needs no leave.
    ∷ case Rmo 1 (commit 0 2 3 9 ∷ perform 0 0 1 ∷ [])
    (taken 0 ∷ taken 0 ∷ [])
    ∷ []

abbrev pub LeaveCasesAgree : Type 0
LeaveCasesAgree = AllAgree leave_cases

-- Law 24, and where a load has its value from.
abbrev pub value_cases : List Case
value_cases =
    -- 24. The copy; its value is named.
    case Rmo 1 (begin 0 0 3 5 1 ∷ commit 0 0 3 4 ∷ perform 0 0 2 ∷ [])
    (taken 0 ∷ taken 0 ∷ convicted 24 0 0 5 ∷ [])
    -- 24 names the thread and the number.
    ∷ case Rmo 2 (begin 1 0 3 5 1 ∷ commit 1 2 0 0 ∷ commit 1 0 3 6 ∷ perform 1 1 2 ∷ [])
    (taken 0 ∷ taken 0 ∷ taken 1 ∷ convicted 24 1 1 5 ∷ [])
    -- The last of the earlier stores is the source.
    ∷ case Tso 1 (commit 0 1 3 7 ∷ commit 0 1 3 8 ∷ commit 0 0 3 8 ∷ commit 0 1 3 9 ∷ perform 0 2 1 ∷ [])
    (taken 0 ∷ taken 1 ∷ taken 2 ∷ taken 3 ∷ taken 1 ∷ [])
    -- 24, where it is not the first.
    ∷ case Tso 1 (commit 0 1 3 7 ∷ commit 0 1 3 8 ∷ commit 0 0 3 7 ∷ perform 0 2 1 ∷ [])
    (taken 0 ∷ taken 1 ∷ taken 2 ∷ convicted 24 0 2 8 ∷ [])
    -- An outstanding store goes before the copy.
    ∷ case Tso 1 (begin 0 1 3 5 1 ∷ commit 0 1 3 7 ∷ commit 0 0 3 7 ∷ perform 0 1 2 ∷ [])
    (taken 0 ∷ taken 0 ∷ taken 1 ∷ taken 1 ∷ [])
    -- 24, where it does.
    ∷ case Tso 1 (begin 0 1 3 5 1 ∷ commit 0 1 3 7 ∷ commit 0 0 3 5 ∷ perform 0 1 2 ∷ [])
    (taken 0 ∷ taken 0 ∷ taken 1 ∷ convicted 24 0 1 7 ∷ [])
    -- A store that performed is in the copy.
    ∷ case Tso 1 (begin 0 1 3 5 1 ∷ commit 0 1 3 7 ∷ commit 0 0 3 7 ∷ perform 0 0 2 ∷ perform 0 1 2 ∷ end 0 3 7 3 ∷ [])
    (taken 0 ∷ taken 0 ∷ taken 1 ∷ taken 0 ∷ taken 2 ∷ taken 0 ∷ [])
    -- A later store is not in the copy.
    ∷ case Rmo 1 (begin 0 1 3 5 1 ∷ commit 0 0 3 5 ∷ commit 0 1 3 7 ∷ perform 0 0 2 ∷ perform 0 1 2 ∷ end 0 3 7 3 ∷ [])
    (taken 0 ∷ taken 0 ∷ taken 1 ∷ taken 2 ∷ taken 0 ∷ taken 0 ∷ [])
    -- The copy is that of the place.
    ∷ case Rmo 1 (begin 0 1 3 5 1 ∷ begin 0 1 4 6 1 ∷ commit 0 0 4 6 ∷ commit 0 0 3 5 ∷ perform 0 0 1 ∷ perform 0 1 1 ∷ [])
    (taken 0 ∷ taken 0 ∷ taken 0 ∷ taken 1 ∷ taken 2 ∷ taken 2 ∷ [])
    -- The copy is that of the thread.
    ∷ case Rmo 2 (begin 0 1 3 5 1 ∷ begin 1 0 3 6 1 ∷ commit 1 0 3 5 ∷ perform 1 0 1 ∷ [])
    (taken 0 ∷ taken 0 ∷ taken 0 ∷ convicted 24 1 0 6 ∷ [])
    -- Numbers count in each thread, performed or not.
    ∷ case Sc 2 (commit 0 2 0 0 ∷ commit 1 2 0 0 ∷ commit 0 2 0 0 ∷ perform 0 0 1 ∷ commit 0 2 0 0 ∷ commit 1 0 3 0 ∷ [])
    (taken 0 ∷ taken 0 ∷ taken 1 ∷ taken 0 ∷ taken 2 ∷ taken 1 ∷ [])
    ∷ []

abbrev pub ValueCasesAgree : Type 0
ValueCasesAgree = AllAgree value_cases
