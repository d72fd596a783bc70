use Rattle.std.proofs.Common.{rules}
use Rattle.watch.proofs.Taking.{took_always}
use Rattle.watch.proofs.watch.Watch.close.Goals as goal

pub returns-clause-took : goal.returns-clause-took
returns-clause-took g c = took_always _ _ _ _ _ _ c.self.view_is (λ B. search rules)
