use Rattle.std.proofs.Common.{true, rules}
use Rattle.table.proofs.table.Table.close.Goals as goal

pub returns-in-Err : goal.returns-in-Err
returns-in-Err c B =
    let k = c.in-Err.ensures (λ _. true) (search rules) in
    search rules
