-- The promise to an honest board: a record of a run of the memory machine is never refused and never convicted. Assumes nothing.
use Rattle.std.specs.Prelude.{◌≡◌, ℕ, ◌≤◌, List, [], ◌∷◌, ◌++◌}
use Rattle.semantics.specs.Calls.{Call, close, Answer, taken}
use Rattle.semantics.specs.Calls
use Rattle.semantics.specs.Laws.{Rule, by_rule}
use Rattle.semantics.specs.State.{State, made}
use Rattle.semantics.specs.Step.{answers, step}
use Rattle.semantics.specs.Trace.{Trace, Follows}
use Rattle.honest.specs.Limits.{WithinLimits}
use Rattle.honest.specs.Machine.{Every}
use Rattle.honest.specs.Record.{Records}

abbrev pub Taken : Answer → Type 0
Taken a = (k : ℕ) × (a ≡ taken k)

-- Every answer is taken, and the last is clean.
abbrev pub TakenThenClean : List Answer → Type 0
TakenThenClean [] = ⊥
TakenThenClean (a ∷ []) = a ≡ Calls.clean
TakenThenClean (a ∷ (b ∷ rest)) = Taken a × TakenThenClean (b ∷ rest)

-- For every rule, every number of threads, and every list of calls that records a run within the limits.
abbrev pub HonestIsClean : Type 0
HonestIsClean = (R : Rule) (n : ℕ) (calls : List Call) → 1 ≤ n → Records (by_rule R) n calls → WithinLimits n calls → TakenThenClean (answers (by_rule R) (made n) calls)

-- The limits are said exactly: a record whose every call is taken is within them.
abbrev pub TakenIsWithin : Type 0
TakenIsWithin = (R : Rule) (n : ℕ) (calls : List Call) → 1 ≤ n → Records (by_rule R) n calls → TakenThenClean (answers (by_rule R) (made n) calls) → WithinLimits n calls

-- The calls of a trace, in the order in which they were made.
abbrev pub calls_of : Trace → List Call
calls_of [] = []
calls_of (e ∷ tr) = calls_of tr ++ (e.call ∷ [])

-- These calls record a run within the limits.
abbrev pub Honest : Rule → ℕ → List Call → Type 0
Honest R n calls = Records (by_rule R) n calls × WithinLimits n calls

-- What a call promises after a trace: if the trace and it are the front of such a record, then it is taken.
abbrev pub HonestCall : Rule → ℕ → Trace → Call → Answer → Type 0
HonestCall R n tr c a = (next : Call) (later : List Call) → 1 ≤ n → Honest R n (calls_of tr ++ (c ∷ (next ∷ later))) → Taken a

abbrev pub HonestCallIsTaken : Type 0
HonestCallIsTaken = (R : Rule) (n : ℕ) (tr : Trace) (s : State) (c : Call) → Follows R n tr s → HonestCall R n tr c (step (by_rule R) s c).answer

-- What a close promises after a trace: if it completes such a record, then every call before it was taken, and it answers clean.
abbrev pub HonestClose : Rule → ℕ → Trace → Answer → Type 0
HonestClose R n tr a = 1 ≤ n → Honest R n (calls_of tr ++ (close ∷ [])) → Every (λ e. Taken e.answer) tr × (a ≡ Calls.clean)

abbrev pub HonestCloseIsClean : Type 0
HonestCloseIsClean = (R : Rule) (n : ℕ) (tr : Trace) (s : State) → Follows R n tr s → HonestClose R n tr (step (by_rule R) s close).answer
