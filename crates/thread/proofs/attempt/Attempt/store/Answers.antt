use Rattle.std.proofs.Common.{◌∙◌, sym, ap, Some}
use Rattle.thread.specs.Attempt.{last_writer, epoch_of, earlier_of}
use Rattle.thread.proofs.Laws.{store_lawful, store_without, store_serves, may_write_found, may_write_none}
use Rattle.thread.proofs.attempt.Attempt.store.Goals as goal
use Rattle.thread.proofs.attempt.Attempt.store.Goals.{in_default-via-in-Some+else-self-i, in_default-via-in_default}

pub returns-in-Some : goal.returns-in-Some
returns-in-Some c =
    let a = c.args.self.now in
    let row = sym c.in-Some.ensures in (
      store_lawful a.thread a.op (last_writer (earlier_of a) a.op) (epoch_of a.epochs.now a.op) c.requires (may_write_found a.epochs.now a.op c.in-Some.i _ row c.if-self-i.true),
      store_serves (last_writer (earlier_of a) a.op) a.epochs.now a.op c.in-Some.i c.requires row,
    )

pub returns-in_default : goal.returns-in_default
returns-in_default c =
    let a = c.args.self.now in
    let without = store_without a.thread a.op (last_writer (earlier_of a) a.op) (epoch_of a.epochs.now a.op) c.requires in
    elim c.in_default.branch [
      | in_default-via-in-Some+else-self-i w ↦ without (may_write_found a.epochs.now a.op w.in-Some.i _ (sym w.in-Some.ensures) w.if-self-i.false) ∙ ap Some (sym c.broken.ensures)
      | in_default-via-in_default w ↦ without (may_write_none a.epochs.now a.op (sym c.row_at.ensures ∙ w.in_default.is)) ∙ ap Some (sym c.broken.ensures)
    ]
