use Rattle.std.proofs.Common.{length, get_or, ap, ◌∙◌, arith}
use Rattle.table.proofs.Threads.{row_set, length_used}
use Rattle.table.proofs.table.Table.perform.Goals as goal

pub invariant_of-self : goal.invariant_of-self
invariant_of-self g c =
    let i = c.self.invariant in
    let m = c.in_ok-t.ensures in
    let rows = c.deref_mut.result.now in
    let row = get_or rows c.in_ok-t.t c.index-deref_mut-t.result in
    let many = ap (λ s. length s.threads) c.self.view_is in
    let r = row_set c.self.inside.threads.items rows c.in_ok-t.t c.perform.new.self c.index-deref_mut-t.result c.deref_mut.ensures.value (omega (arith, many, m.thread.is, m.thread.known)) in
    let same = ap (λ w. length w.epochs) c.perform.ensures ∙ length_used c.args.time c.in_ok-t.op c.in-Ok.served.uses row.epochs in
    record {
      some_threads = omega (arith, r.0, i.some_threads);
      homes_long = i.homes_long;
      begins_fit = i.begins_fit;
      ends_fit = omega (arith, r.1, same, i.ends_fit);
      accounts_fit = i.accounts_fit;
    }
