use Rattle.semantics.specs.Laws.{by_rule}
use Rattle.watch.proofs.Taking.{took}
use Rattle.watch.proofs.watch.Watch.begin.Goals as goal

pub returns-clause-took : goal.returns-clause-took
returns-clause-took g c = took g.R.OrderingRule.orders _ c.args.self.now _ _ _ c.self.view_is (c.begin.ensures (by_rule (g.R.OrderingRule.orders c.self.inside.rule)))
