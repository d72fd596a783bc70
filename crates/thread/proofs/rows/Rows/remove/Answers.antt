use Rattle.thread.proofs.Blanks.{below, take_remove, filled_remove}
use Rattle.thread.proofs.rows.Rows.remove.Goals as goal

pub invariant_of-self : goal.invariant_of-self
invariant_of-self g c =
    let l = below c.self.invariant c.args.self.now c.args.i c.self.view_is c.requires in
    rw c.take_out.ensures (filled_remove c.self.invariant c.args.i l c.default.result (g.met.T.Blank.is_blank _ c.default.ensures))

pub returns : goal.returns
returns g c =
    let l = below c.self.invariant c.args.self.now c.args.i c.self.view_is c.requires in
    rw (c.take_out.ensures, ← c.self.view_is) (take_remove c.self.invariant c.args.i l c.default.result)
