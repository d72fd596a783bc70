use Rattle.std.proofs.Common.{slice_set, ap, ◌∙◌}
use Rattle.thread.proofs.Blanks.{below, filled_set, take_set}
use Rattle.thread.proofs.rows.Rows.set.Goals as goal

pub invariant_of-self : goal.invariant_of-self
invariant_of-self g c =
    let l = below c.self.invariant c.args.self.now c.args.i c.self.view_is c.requires in
    filled_set c.self.invariant c.args.i l c.args.row

pub returns : goal.returns
returns g c =
    let l = below c.self.invariant c.args.self.now c.args.i c.self.view_is c.requires in
    take_set c.self.invariant c.args.i l c.args.row ∙ ap (λ xs. slice_set xs c.args.i c.args.row) c.self.view_is
