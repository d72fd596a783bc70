use Rattle.thread.proofs.Blanks.{filled_push}
use Rattle.thread.proofs.rows.Rows.push.Goals as goal

pub invariant_of-self : goal.invariant_of-self
invariant_of-self g c = filled_push c.self.invariant c.args.self.now c.args.row c.self.view_is c.requires
