use Rattle.std.proofs.Common.{eqb, ap, ◌∙◌}
use Rattle.std.specs.List.{position}
use Rattle.table.proofs.Notices.{owes_by}
use Rattle.table.proofs.table.Table.owes.Goals as goal

pub returns : goal.returns
returns c =
    let n = c.args.number in
    rw c.ok_or.ensures.value (owes_by c.args.self.now n c.row_of.result (c.row_of.ensures ∙ ap (position (λ e. eqb e.number n)) c.deref.ensures.0 ∙ ap (λ s. position (λ e. eqb e.number n) s.owed) c.self.view_is))
