-- Open epochs stay begun as the clock goes on. Assumes nothing.
use Rattle.std.proofs.Common.{ℕ, ◌≤◌, List, arith}
use Rattle.std.specs.List.{All}
use Rattle.std.proofs.lemmas.List.Elements.{All-weaker}
use Rattle.semantics.specs.declared.row.Epoch.{Epoch}
use Rattle.thread.specs.Sound.{IsBegun}

pub begun_later : (c d : ℕ) → c ≤ d → (es : List Epoch) → All (IsBegun c) es → All (IsBegun d) es
begun_later c d l es = All-weaker (IsBegun c) (IsBegun d) (λ e h. record { before_use = h.before_use; before_clock = let k = h.before_clock in omega (arith, k, l) }) es
