use Rattle.std.proofs.Common.{◌≡◌, ◌≤◌, Bool, length}
use Rattle.semantics.specs.declared.row.Ended.{Ended}
use Rattle.semantics.specs.Judging.{judge}
use Rattle.table.proofs.table.Table.judge.Given as goal

-- What is left to judge comes to what all of it comes to, whatever is due.
abbrev pub invariant-loop-row : goal.invariant-loop-row
invariant-loop-row g l = record {
  same : (p : Ended → Bool) → ((e : _) (r : Bool) → goal.F-post g l.due e r → r ≡ p e.now) → judge p l.self l.self.waiting l.done ≡ judge p l.fn.self l.fn.self.waiting 0;
  counted : l.done ≤ l.self.judged;
}

abbrev pub decreases-loop-row : goal.decreases-loop-row
decreases-loop-row g l = length l.self.waiting
