use Rattle.semantics.specs.Laws.{by_rule}
use Rattle.watch.proofs.Taking.{took}
use Rattle.watch.proofs.watch.Watch.report.Goals.{in-Ok, in-Err}
use Rattle.watch.proofs.watch.Watch.report.Goals as goal

pub returns-clause-took : goal.returns-clause-took
returns-clause-took g c =
    let B = by_rule (g.R.OrderingRule.orders c.self.inside.rule) in
    elim c.match-report.branch [
      | in-Ok w ↦ rw w.result-is (took g.R.OrderingRule.orders _ c.args.self.now _ _ _ c.self.view_is (w.in-Ok.ensures B))
      | in-Err w ↦ rw w.result-is (took g.R.OrderingRule.orders _ c.args.self.now _ _ _ c.self.view_is (w.in-Err.ensures B))
    ]
