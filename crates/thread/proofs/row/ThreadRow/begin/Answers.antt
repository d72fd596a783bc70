use Rattle.std.proofs.Common.{ap, arith}
use Rattle.std.proofs.lemmas.List.Elements.{All-push}
use Rattle.thread.specs.Sound.{IsBegun}
use Rattle.thread.proofs.Begun.{begun_later}
use Rattle.thread.proofs.row.ThreadRow.begin.Goals as goal

pub invariant_of-self : goal.invariant_of-self
invariant_of-self c =
    let w = c.self.inside in
    let i = c.self.invariant in
    let e = c.args.epoch in
    let clock = ap (λ s. s.clock) c.self.view_is in
    let t = c.requires.time in
    let kept = begun_later w.clock e.from (omega (arith, clock, t.0)) w.epochs i.epochs_begun in
    record {
      commits_fit = i.commits_fit;
      epochs_begun = rw c.push.ensures (All-push (IsBegun e.from) _ e kept (record { before_use = t.1; before_clock = omega arith }));
    }
