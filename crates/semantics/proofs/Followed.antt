-- The trace and the state after a list of calls are what a watch meets and holds. Assumes nothing.
use Rattle.std.proofs.Common.{ℕ, List, [], ◌∷◌}
use Rattle.semantics.specs.Calls.{Call}
use Rattle.semantics.specs.Laws.{Rule}
use Rattle.semantics.specs.State.{State, made}
use Rattle.semantics.specs.Trace.{Trace, Follows, new, met, follow}

follows_on : (R : Rule) (n : ℕ) (cs : List Call) {tr : Trace} {s : State} → Follows R n tr s → Follows R n (follow R cs tr s).0 (follow R cs tr s).1
follows_on R n [] f = f
follows_on R n (c ∷ cs) f = follows_on R n cs (met f c)

pub follows : (R : Rule) (n : ℕ) (cs : List Call) → Follows R n (follow R cs [] (made n)).0 (follow R cs [] (made n)).1
follows R n cs = follows_on R n cs new
