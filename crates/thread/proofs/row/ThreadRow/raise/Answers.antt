use Rattle.std.proofs.Common.{ap, arith}
use Rattle.thread.proofs.Begun.{begun_later}
use Rattle.thread.proofs.row.ThreadRow.raise.Goals as goal

pub invariant_of-self : goal.invariant_of-self
invariant_of-self c =
    let w = c.self.inside in
    let i = c.self.invariant in
    let clock = ap (λ s. s.clock) c.self.view_is in
    record {
      commits_fit = i.commits_fit;
      epochs_begun = begun_later w.clock c.args.time (omega (arith, clock, c.requires)) w.epochs i.epochs_begun;
    }
