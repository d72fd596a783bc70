-- The promise that the accounts are exact. Assumes nothing.
use Rattle.std.specs.Prelude.{◌≡◌, ℕ, ◌+◌}
use Rattle.semantics.specs.declared.counts.Counts.{Counts}
use Rattle.semantics.specs.Asking.{counts}
use Rattle.semantics.specs.Laws.{Rule}
use Rattle.semantics.specs.State.{State}
use Rattle.semantics.specs.Trace.{Trace, Follows}
use Rattle.accounts.specs.Accounts.{Open, Owed, Waiting, Judged, Dropped, sooner, judgings, size, put_into}
use Rattle.accounts.specs.Lists.{InOrder}

abbrev pub sizes : Trace → Counts
sizes tr = record { «open» = size Open tr; owed = size Owed tr; waiting = size Waiting tr; judged = size Judged tr; dropped = size Dropped tr }

abbrev pub sum : Counts → ℕ
sum c = c.«open» + (c.owed + (c.waiting + (c.judged + c.dropped)))

-- How many epochs began: the begins that were taken.
abbrev pub begun : Trace → ℕ
begun tr = put_into Open tr

-- What a watch counts after a trace are the sizes of the five accounts, every epoch begun is in one of them,
-- and the judged were judged by begin, then by number, over the whole trace.
pub record Exact (tr : Trace) (s : State) : Type 0 where
  pub counted : counts s ≡ sizes tr
  pub whole : sum (counts s) ≡ begun tr
  pub in_order : InOrder sooner (judgings tr)

abbrev pub AccountsAreExact : Type 0
AccountsAreExact = (R : Rule) (n : ℕ) (tr : Trace) (s : State) → Follows R n tr s → Exact tr s
