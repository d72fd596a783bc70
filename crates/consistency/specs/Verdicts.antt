-- How often the answers of a trace are clean, and whether one is a conviction. Assumes nothing.
use Rattle.std.specs.Prelude.{ℕ, ◌+◌, Bool, true, false, cond, ◌||◌, [], ◌∷◌}
use Rattle.semantics.specs.Calls.{Answer, taken, refused, convicted}
use Rattle.semantics.specs.Calls
use Rattle.semantics.specs.Trace.{Trace, says_clean}

-- How many closes in the trace answered clean.
abbrev pub clean_closes : Trace → ℕ
clean_closes [] = 0
clean_closes (e ∷ tr) = cond (says_clean e.answer) (clean_closes tr + 1) (clean_closes tr)

abbrev pub says_convicted : Answer → Bool
says_convicted (taken k) = false
says_convicted Calls.clean = false
says_convicted (refused r) = false
says_convicted (convicted c) = true

-- A call in the trace answered with a conviction.
abbrev pub is_convicted : Trace → Bool
is_convicted [] = false
is_convicted (e ∷ tr) = says_convicted e.answer || is_convicted tr
