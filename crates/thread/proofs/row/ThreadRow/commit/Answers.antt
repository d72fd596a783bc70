use Rattle.std.proofs.Common.{arith, ap}
use Rattle.thread.proofs.row.ThreadRow.commit.Goals as goal

pub invariant_of-self : goal.invariant_of-self
invariant_of-self c =
    let more = ap (λ s. s.commits) c.self.view_is in
    record { commits_fit = omega (arith, more, c.requires.more); epochs_begun = c.self.invariant.epochs_begun }
