use Rattle.thread.proofs.Blanks.{rotated_out}
use Rattle.thread.proofs.rows.take_out.Goals as goal

pub returns : goal.returns
returns g c = rw c.rotate_left.ensures.after (rotated_out c.args.rows.now c.args.count c.args.i c.args.last c.requires.0 c.requires.1)
