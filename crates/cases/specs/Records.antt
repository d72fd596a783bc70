-- Eight worked records: calls under a named rule, with the answers that they get. Assumes nothing.
use Rattle.std.specs.Prelude.{◌≡◌, ℕ, zero, suc, ◌+◌, List, [], ◌∷◌, ◌++◌, replicate, map}
use Rattle.ordering.specs.Named.{named_orders}
use Rattle.ordering.specs.declared.named.NamedRule.{NamedRule}
use Rattle.ordering.specs.declared.named.NamedRule.TheVariants.{Sc, Tso, Rmo}
use Rattle.semantics.specs.Calls.{Call, preset, commit, perform, advance, begin, end, report, drop, settle, close, Answer}
use Rattle.semantics.specs.Calls
use Rattle.semantics.specs.Laws.{by_rule}
use Rattle.semantics.specs.Numbers.{refusal_number, limit_in, law_number}
use Rattle.semantics.specs.State.{made}
use Rattle.semantics.specs.Step.{answers}

-- An answer by its numbers.
pub data Shown : Type 0 where
  taken : ℕ → Shown
  clean : Shown
  refused : (code limit : ℕ) → Shown
  convicted : (law thread number other : ℕ) → Shown

abbrev pub shown : Answer → Shown
shown (Calls.taken k) = taken k
shown Calls.clean = clean
shown (Calls.refused r) = refused (refusal_number r) (limit_in r)
shown (Calls.convicted c) = convicted (law_number c.law) c.thread c.number c.other

-- Calls of a new watch, and what they answer.
pub record Record : Type 0 where
  pub rule : NamedRule
  pub threads : ℕ
  pub calls : List Call
  pub answer : List Shown

abbrev pub Agrees : Record → Type 0
Agrees r = map shown (answers (by_rule (named_orders r.rule)) (made r.threads) r.calls) ≡ r.answer

abbrev pub AllAgree : List Record → Type 0
AllAgree [] = Unit {0}
AllAgree (r ∷ rs) = Agrees r × AllAgree rs

abbrev pub row : NamedRule → ℕ → List Call → List Shown → Record
row r n cs xs = record { rule = r; threads = n; calls = cs; answer = xs }

-- A store of 7 to place 3 is outstanding while a load of place 4 performs.
abbrev pub load_passes_store : List Call
load_passes_store = commit 0 1 3 7 ∷ commit 0 0 4 0 ∷ begin 0 0 4 0 1 ∷ perform 0 1 2 ∷ []

-- A write from 2 to 5, and one of another thread to the same place from a given time to 9.
abbrev pub two_writes : ℕ → List Call
two_writes τ = begin 0 1 3 0 2 ∷ end 0 3 0 5 ∷ report 0 ∷ begin 1 1 3 0 τ ∷ end 1 3 0 9 ∷ report 1 ∷ close ∷ []

-- Commits that are taken as numbers from k on.
abbrev pub taken_from : ℕ → ℕ → List Shown
taken_from k zero = []
taken_from k (suc n) = taken k ∷ taken_from (k + 1) n

abbrev pub worked : List Record
worked =
    -- 1. Under tso a load may pass an earlier store; under sc it may not.
    row Tso 2 load_passes_store (taken 0 ∷ taken 1 ∷ taken 0 ∷ taken 2 ∷ [])
    ∷ row Sc 2 load_passes_store (taken 0 ∷ taken 1 ∷ taken 0 ∷ convicted 22 0 1 0 ∷ [])
    -- 2. A barrier of stores holds back a later store, and no later load.
    ∷ row Rmo 1 (commit 0 1 3 7 ∷ commit 0 10 0 0 ∷ commit 0 1 4 9 ∷ begin 0 1 4 0 1 ∷ perform 0 2 2 ∷ []) (taken 0 ∷ taken 1 ∷ taken 2 ∷ taken 0 ∷ convicted 22 0 2 1 ∷ [])
    ∷ row Rmo 1 (commit 0 1 3 7 ∷ commit 0 10 0 0 ∷ commit 0 0 4 0 ∷ begin 0 0 4 0 1 ∷ perform 0 2 2 ∷ []) (taken 0 ∷ taken 1 ∷ taken 2 ∷ taken 0 ∷ taken 2 ∷ [])
    -- 3. A load takes the value of an outstanding store of its thread, with no epoch.
    ∷ row Tso 1 (commit 0 1 3 7 ∷ commit 0 0 3 7 ∷ perform 0 1 1 ∷ []) (taken 0 ∷ taken 1 ∷ taken 1 ∷ [])
    ∷ row Tso 1 (commit 0 1 3 7 ∷ commit 0 0 3 0 ∷ perform 0 1 1 ∷ []) (taken 0 ∷ taken 1 ∷ convicted 24 0 1 7 ∷ [])
    -- 4. An epoch ends after its last use.
    ∷ row Sc 1 (begin 0 0 3 0 5 ∷ end 0 3 0 5 ∷ []) (taken 0 ∷ convicted 25 0 3 5 ∷ [])
    ∷ row Sc 1 (begin 0 0 3 0 5 ∷ end 0 3 0 6 ∷ []) (taken 0 ∷ taken 0 ∷ [])
    -- 5. Two writes of a place may meet, and not overlap.
    ∷ row Sc 2 (two_writes 5) (taken 0 ∷ taken 0 ∷ taken 0 ∷ taken 0 ∷ taken 1 ∷ taken 0 ∷ clean ∷ [])
    ∷ row Sc 2 (two_writes 4) (taken 0 ∷ taken 0 ∷ taken 0 ∷ taken 0 ∷ taken 1 ∷ taken 0 ∷ convicted 27 1 1 5 ∷ [])
    -- 6. No rule lets two stores of a thread to one place change places.
    ∷ row Rmo 1 (commit 0 1 3 7 ∷ commit 0 1 3 8 ∷ begin 0 1 3 0 1 ∷ perform 0 1 2 ∷ []) (taken 0 ∷ taken 1 ∷ taken 0 ∷ convicted 21 0 1 0 ∷ [])
    -- 7. The 64th outstanding commit is taken, the 65th is not.
    ∷ row Sc 1 (replicate 65 (commit 0 0 3 0)) (taken_from 0 64 ++ (refused 12 1 ∷ []))
    -- 8. The last class and the last place.
    ∷ row Sc 1 (commit 0 17 0 0 ∷ commit 0 1 511 1 ∷ commit 0 18 0 0 ∷ commit 0 1 512 1 ∷ []) (taken 0 ∷ taken 1 ∷ refused 5 0 ∷ refused 6 0 ∷ [])
    ∷ []

abbrev pub WorkedRecordsAgree : Type 0
WorkedRecordsAgree = AllAgree worked
