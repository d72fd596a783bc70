use Rattle.std.proofs.Common.{length, ap, ◌∙◌, arith}
use Rattle.queue.proofs.Sorts.{length_insert}
use Rattle.semantics.specs.Judging.{ended_le}
use Rattle.semantics.specs.Puts.{without}
use Rattle.table.proofs.table.Table.report.Goals as goal

pub invariant_of-self : goal.invariant_of-self
invariant_of-self c =
    let i = c.self.invariant in
    let n = c.args.number in
    let fewer = c.in_ok-i.ensures.1.fewer in
    let before = ap (λ s. length s.owed) c.self.view_is in
    let after = ap length c.drop_row.ensures ∙ ap (λ s. length (without n s.owed)) c.self.view_is in
    let more = ap length c.add.ensures ∙ length_insert ended_le _ c.self.inside.waiting in
    record {
      some_threads = i.some_threads;
      homes_long = i.homes_long;
      begins_fit = i.begins_fit;
      ends_fit = i.ends_fit;
      accounts_fit = omega (arith, fewer, before, after, more, i.accounts_fit);
    }
