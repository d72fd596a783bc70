-- Runs of a new watch to a limit: every call is taken until the limit is reached, and the next is refused. Assumes nothing.
use Rattle.std.specs.Prelude.{ℕ, zero, suc, List, [], ◌∷◌, ◌++◌, replicate}
use Rattle.ordering.specs.declared.named.NamedRule.TheVariants.{Sc}
use Rattle.semantics.specs.Calls.{Call, begin, end, report}
use Rattle.cases.specs.Records.{Shown, taken, refused}
use Rattle.cases.specs.Table.{case, Agrees}

-- n epochs of the places from p on, all open from the time 0.
abbrev pub opening : ℕ → ℕ → List Call
opening p zero = []
opening p (suc n) = begin 0 0 p 0 0 ∷ opening (suc p) n

-- n epochs of place 3 from the time k on, each of which begins where the one before it ends.
abbrev pub ending : ℕ → ℕ → List Call
ending k zero = []
ending k (suc n) = begin 0 0 3 0 k ∷ end 0 3 0 (suc k) ∷ ending (suc k) n

abbrev pub ends_taken : ℕ → ℕ → List Shown
ends_taken k zero = []
ends_taken k (suc n) = taken 0 ∷ taken k ∷ ends_taken (suc k) n

-- The same, each reported.
abbrev pub reporting : ℕ → ℕ → List Call
reporting k zero = []
reporting k (suc n) = begin 0 0 3 0 k ∷ end 0 3 0 (suc k) ∷ report k ∷ reporting (suc k) n

abbrev pub reports_taken : ℕ → ℕ → List Shown
reports_taken k zero = []
reports_taken k (suc n) = taken 0 ∷ taken k ∷ taken 0 ∷ reports_taken (suc k) n

-- Limit 3: 32 epochs of a thread are open.
abbrev pub OpenRunAgrees : Type 0
OpenRunAgrees = Agrees (case Sc 1 (opening 0 33) (replicate 32 (taken 0) ++ (refused 12 3 ∷ [])))

-- Limit 5: 32 notices are owed.
abbrev pub OwedRunAgrees : Type 0
OwedRunAgrees = Agrees (case Sc 1 (ending 0 33) (ends_taken 0 32 ++ (taken 0 ∷ refused 12 5 ∷ [])))

-- Limit 6: 128 notices are waiting.
abbrev pub WaitingRunAgrees : Type 0
WaitingRunAgrees = Agrees (case Sc 1 (reporting 0 129) (reports_taken 0 128 ++ (taken 0 ∷ taken 128 ∷ refused 12 6 ∷ [])))
