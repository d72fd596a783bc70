use Rattle.std.proofs.Common.{ltb, rules}
use Rattle.table.proofs.Judgings.{settles, settle_convicts}
use Rattle.table.proofs.table.Table.settle.Goals as goal

pub returns-in-Ok : goal.returns-in-Ok
returns-in-Ok c B =
    let j = c.in-Ok.ensures (λ e. ltb e.from c.safe_time-time.result) (search rules) in
    settles B c.args.self.now c.judge.new.self c.safe_time-time.result c.in-Ok.done c.in_ok-running.ensures c.safe_time-time.ensures j

pub returns-in-Err : goal.returns-in-Err
returns-in-Err c B =
    let k = c.in-Err.ensures (λ e. ltb e.from c.safe_time-time.result) (search rules) in
    rw (c.convict.ensures.answer, c.convict.ensures.state) (settle_convicts B c.args.self.now c.judge.new.self c.safe_time-time.result k.0 c.in-Err.conviction c.in_ok-running.ensures c.safe_time-time.ensures k.1)
