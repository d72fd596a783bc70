-- What is left to run gives what the whole gives.
use Rattle.std.proofs.Common.{◌≡◌}
use Rattle.semantics.specs.Laws.{by_rule}
use Rattle.text.specs.Readers.{left, remaining}
use Rattle.trace.specs.Runs.{run}
use Rattle.trace.proofs.run.run_events.Given as goal

abbrev pub invariant-loop-entry : goal.invariant-loop-entry
invariant-loop-entry g l =
    (l.watch.rule ≡ l.initial.watch.rule)
    × (run (by_rule (g.R.OrderingRule.orders l.initial.watch.rule)) l.initial.watch.state 3 (left l.initial.reader)
    ≡ run (by_rule (g.R.OrderingRule.orders l.initial.watch.rule)) l.watch.state l.line (left l.reader))

abbrev pub decreases-loop-entry : goal.decreases-loop-entry
decreases-loop-entry g l = remaining l.reader
