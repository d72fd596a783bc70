use Rattle.std.proofs.Common.{length, get_or, ap, ◌∙◌, arith}
use Rattle.thread.specs.Performing.{without_epoch}
use Rattle.table.proofs.Threads.{row_is, row_set}
use Rattle.table.proofs.table.Table.end.Goals as goal

pub invariant_of-self : goal.invariant_of-self
invariant_of-self c =
    let i = c.self.invariant in
    let m = c.in_ok-t.ensures in
    let rows = c.deref_mut.result.now in
    let row = get_or rows c.in_ok-t.t c.index-deref_mut-t.result in
    let many = ap (λ s. length s.threads) c.self.view_is in
    let r = row_set c.self.inside.threads.items rows c.in_ok-t.t c.end.new.self c.index-deref_mut-t.result c.deref_mut.ensures.value (omega (arith, many, m.thread.is, m.thread.known)) in
    let same = row_is c.args.self.now rows c.in_ok-t.t c.index-deref_mut-t.result (c.deref_mut.ensures.value ∙ ap (λ s. s.threads) c.self.view_is) (omega (arith, m.thread.is, m.thread.known)) in
    let before = ap (λ w. length w.epochs) same in
    let after = ap (λ w. length w.epochs) (c.end.ensures.state ∙ ap (without_epoch c.args.place c.args.time) same) in
    let more = c.push.ensures.len in
    record {
      some_threads = omega (arith, r.0, i.some_threads);
      homes_long = i.homes_long;
      begins_fit = i.begins_fit;
      ends_fit = omega (arith, r.1, before, after, m.fewer, i.ends_fit);
      accounts_fit = omega (arith, more, i.accounts_fit);
    }
