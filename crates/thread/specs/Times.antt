-- The times that a thread adds to those that bound the safe time. Assumes nothing.
use Rattle.std.specs.Prelude.{ℕ, List, ◌∷◌, map}
use Rattle.semantics.specs.State.{Thread}

abbrev pub thread_times : Thread → List ℕ
thread_times w = w.clock ∷ map (λ e. e.from) w.epochs
