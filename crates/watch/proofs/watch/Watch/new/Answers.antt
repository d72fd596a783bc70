use Rattle.std.proofs.Common.{[], sym, subst}
use Rattle.semantics.specs.Trace.{Follows, new}
use Rattle.watch.proofs.watch.Watch.new.Goals as goal

pub returns-clause-history : goal.returns-clause-history
returns-clause-history g c = subst (λ s. Follows (g.R.OrderingRule.orders c.args.rule) c.args.threads.count [] s) (sym c.new.ensures) new
