use Rattle.std.specs.Prelude.{nat_lt}
use Rattle.thread.proofs.Front.{front_holds}
use Rattle.thread.proofs.lookups.front.Goals as goal

pub returns : goal.returns
returns c = rw (c.saturating_sub.ensures, c.unwrap_or-behind.ensures) (front_holds (λ x. nat_lt x.number c.args.number) c.args.rows.now c.rows_behind.result c.rows_behind.ensures)
