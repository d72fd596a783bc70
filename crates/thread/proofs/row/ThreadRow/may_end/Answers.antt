use Rattle.std.proofs.Common.{arith}
use Rattle.thread.proofs.Tests.{ends_by}
use Rattle.thread.proofs.row.ThreadRow.may_end.Goals as goal

pub returns : goal.returns
returns c = rw c.ok_or.ensures.value (ends_by c.args.self.now c.args.place c.args.time c.epoch.result c.epoch.ensures (omega arith) c.in_ok-may_advance.ensures.time)
