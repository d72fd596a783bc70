use Rattle.std.proofs.lemmas.Result.{err_from_is_err_and}
use Rattle.semantics.specs.Laws.{by_rule}
use Rattle.watch.proofs.Taking.{took}
use Rattle.watch.proofs.watch.Watch.end.Goals as goal

pub returns-in_err-number-clause-took : goal.returns-in_err-number-clause-took
returns-in_err-number-clause-took g c =
    let p = err_from_is_err_and c.from_residual.result c.from_residual.ensures.1 in
    rw (p.1, p.2) (took g.R.OrderingRule.orders _ c.args.self.now _ _ _ c.self.view_is (c.in_err-number.ensures (by_rule (g.R.OrderingRule.orders c.self.inside.rule))))

pub returns-clause-took : goal.returns-clause-took
returns-clause-took g c = took g.R.OrderingRule.orders _ c.args.self.now _ _ _ c.self.view_is (c.in_ok-number.ensures (by_rule (g.R.OrderingRule.orders c.self.inside.rule)))
