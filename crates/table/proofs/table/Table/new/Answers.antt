use Rattle.std.proofs.Common.{◌≡◌, length, take, replicate, ap, ◌∙◌, refl, rules, arith}
use Rattle.std.proofs.lemmas.List.{length-replicate}
use Rattle.semantics.specs.State.{idle}
use Rattle.table.proofs.Threads.{open_idle, idle_rows}
use Rattle.table.proofs.table.Table.new.Goals as goal

pub invariant_of-result : goal.invariant_of-result
invariant_of-result c =
    let n = c.args.count in
    let rows = idle_rows n c.requires.1 c.new.ensures refl c.from-threads.ensures.0 c.truncate.ensures.items in
    let many = ap length rows ∙ length-replicate n idle in
    let none = open_idle c.truncate.new.self.items n rows in
    record {
      some_threads = omega (arith, many, c.requires);
      homes_long = refl;
      begins_fit = omega arith;
      ends_fit = omega (arith, none);
      accounts_fit = search rules;
    }

pub returns : goal.returns
returns c = rw (idle_rows c.args.count c.requires.1 c.new.ensures refl c.from-threads.ensures.0 c.truncate.ensures.items) (search rules)
