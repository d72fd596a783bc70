use Rattle.std.proofs.Common.{◌==◌, not, rules}
use Rattle.arrayvec.proofs.ArrayVecLemmas.{filter-from_retain}
use Rattle.ended.proofs.owed.drop_row.Goals as goal

pub returns : goal.returns
returns c = filter-from_retain _ (λ e. not (e.number == c.args.number)) _ (λ x b f' y called. search rules) _ _ c.retain.ensures.filtered
