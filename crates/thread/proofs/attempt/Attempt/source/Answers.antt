use Rattle.std.proofs.Common.{◌∙◌, ◌&&◌, ◌==◌, sym, refl}
use Rattle.std.specs.Prelude.{nat_lt}
use Rattle.semantics.specs.Classes.{writes}
use Rattle.thread.specs.Attempt.{last_writer, earlier_of}
use Rattle.thread.proofs.Lists.{find_reverse_filter}
use Rattle.thread.proofs.Laws.{source_forwarded, source_copied, source_none}
use Rattle.thread.proofs.attempt.Attempt.source.Goals as goal

pub returns-in-Some : goal.returns-in-Some
returns-in-Some c =
    let a = c.args.self.now in
    source_forwarded (last_writer (earlier_of a) a.op) a.epochs.now a.op c.in-Some.store (c.in-Some.ensures ∙ find_reverse_filter (λ x. nat_lt x.number a.op.number) (λ x. writes x.class && x.place == a.op.place) a.outstanding.now)

pub returns-in_err-i-in-None : goal.returns-in_err-i-in-None
returns-in_err-i-in-None c =
    let a = c.args.self.now in
    rw c.from_residual.ensures
    (source_none (last_writer (earlier_of a) a.op) a.epochs.now a.op (c.in-None.ensures ∙ find_reverse_filter (λ x. nat_lt x.number a.op.number) (λ x. writes x.class && x.place == a.op.place) a.outstanding.now) (sym c.row_at.ensures ∙ c.in_err-i-in-None.was))

pub returns-in_ok-i-in-None : goal.returns-in_ok-i-in-None
returns-in_ok-i-in-None c =
    let a = c.args.self.now in
    source_copied (last_writer (earlier_of a) a.op) a.epochs.now a.op c.in_ok-i-in-None.i _ (c.in-None.ensures ∙ find_reverse_filter (λ x. nat_lt x.number a.op.number) (λ x. writes x.class && x.place == a.op.place) a.outstanding.now) (sym c.row_at.ensures ∙ c.in_ok-i-in-None.was) refl
