-- What judging finds. Assumes nothing.
use Rattle.std.specs.Prelude.{◌≡◌, ℕ, Bool, Some, None, Ok, Err, Option, Result}
use Rattle.semantics.specs.declared.row.Ended.{Ended}
use Rattle.semantics.specs.declared.verdict.Conviction.{Conviction}
use Rattle.semantics.specs.Judging.{Judging, judge}
use Rattle.semantics.specs.State.{State}

abbrev pub judging : State → ℕ → Option Conviction → Judging
judging s k f = record { state = s; done = k; fault = f }

-- Judging what waits in s leaves s', and gives how many were judged or the fault.
abbrev pub Judges : (Ended → Bool) → State → Result ℕ Conviction → State → Type 0
Judges due s (Ok k) s' = judge due s s.waiting 0 ≡ judging s' k None
Judges due s (Err c) s' = (k : ℕ) × (judge due s s.waiting 0 ≡ judging s' k (Some c))
