-- The rows of a watch are the epochs of its trace, and the accounts add up with the calls. Assumes nothing.
use Rattle.std.specs.Prelude.{◌≡◌, ℕ, ◌+◌, not, ◌&&◌, List, [], ◌∷◌, ◌++◌, ◌==◌, nat_lt, map}
use Rattle.semantics.specs.declared.row.Ended.{Ended}
use Rattle.semantics.specs.declared.row.Epoch.{Epoch}
use Rattle.semantics.specs.Laws.{Rule}
use Rattle.semantics.specs.State.{State, thread_of}
use Rattle.semantics.specs.Trace.{Trace, Follows}
use Rattle.accounts.specs.Accounts.{Account, Open, Owed, Waiting, Judged, Dropped, is, sooner, epochs, judgings, size, put_into}
use Rattle.accounts.specs.Deeds.{Deed, begins, ends, reports, drops, judges, nothing, deed}
use Rattle.accounts.specs.Exact.{begun}
use Rattle.accounts.specs.Lists.{one_if, count, All, InOrder, Once, below}

-- The notice number that a deed hands out, and those that a trace handed out, in that order.
abbrev pub number_in : Deed → List ℕ
number_in (begins r) = []
number_in (ends t p n v τ) = n ∷ []
number_in (reports n) = []
number_in (drops n) = []
number_in (judges a) = []
number_in nothing = []

abbrev pub numbers : Trace → List ℕ
numbers [] = []
numbers (e ∷ tr) = numbers tr ++ number_in (deed e.call e.answer)

-- An open epoch of a thread as the trace knows it, and all of them.
abbrev pub open_row : ℕ → Epoch → Ended
open_row t e = record { from = e.from; number = 0; thread = t; writes = e.writes; place = e.place; until = 0; start = e.start; last = 0 }

abbrev pub open_rows : State → ℕ → List Ended
open_rows s t = map (open_row t) (thread_of s t).epochs

-- Rows and the epochs of an account are the same, each once.
pub record Match (a : Account) (rows : List Ended) (tr : Trace) : Type 0 where
  pub each_row : All (λ r. Once (record { account = a; row = r }) (epochs tr)) rows
  pub each_epoch : All (λ e. e.account ≡ a → Once e.row rows) (epochs tr)

-- The rows of the watch are the epochs of the trace, and so are the judgings; each number was handed out once, to one epoch;
-- the waiting stand in the order of judging; the watch's own count of begins is that of the trace.
pub record Rows (tr : Trace) (s : State) : Type 0 where
  pub opens : (t : ℕ) → All (λ r. Once (record { account = Open; row = r }) (epochs tr)) (open_rows s t)
  pub opened : All (λ e. e.account ≡ Open → Once e.row (open_rows s e.row.thread)) (epochs tr)
  pub owed : Match Owed s.owed tr
  pub waiting : Match Waiting s.waiting tr
  pub judged : Match Judged (judgings tr) tr
  pub handed_out : numbers tr ≡ below s.ends
  pub one_each : (n : ℕ) → count (λ e. not (is Open e) && e.row.number == n) (epochs tr) ≡ one_if (nat_lt n s.ends)
  pub queue : InOrder sooner s.waiting
  pub begins : s.begins ≡ begun tr

abbrev pub RowsAreEpochs : Type 0
RowsAreEpochs = (R : Rule) (n : ℕ) (tr : Trace) (s : State) → Follows R n tr s → Rows tr s

-- What stands in an account was put there by a call and was not put on by a later one.
pub record AddsUp (tr : Trace) : Type 0 where
  pub opens : size Open tr + put_into Owed tr ≡ put_into Open tr
  pub owed : size Owed tr + (put_into Waiting tr + put_into Dropped tr) ≡ put_into Owed tr
  pub waiting : size Waiting tr + put_into Judged tr ≡ put_into Waiting tr
  pub judged : size Judged tr ≡ put_into Judged tr
  pub dropped : size Dropped tr ≡ put_into Dropped tr

abbrev pub CallsAddUp : Type 0
CallsAddUp = (R : Rule) (n : ℕ) (tr : Trace) (s : State) → Follows R n tr s → AddsUp tr
