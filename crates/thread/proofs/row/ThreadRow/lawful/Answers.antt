use Rattle.semantics.specs.Laws.{by_rule}
use Rattle.thread.specs.Attempt.{earlier_of}
use Rattle.thread.proofs.Laws.{lawful_in}
use Rattle.thread.proofs.row.ThreadRow.lawful.Goals as goal

pub returns : goal.returns
returns g c =
    let w = c.args.self.now in
    let a = c.attempt.result in
    let e = c.attempt.ensures in
    lawful_in (by_rule (g.R.OrderingRule.orders c.args.rule.now)) w c.args.thread c.args.op a.thread a.op (earlier_of a) a.epochs.now e.thread e.op e.earlier e.epochs _ c.lawful.ensures
