-- The trace of a watch: the calls that it met since its making, with their answers. Assumes nothing.
use Rattle.std.specs.Prelude.{ℕ, Bool, true, false, cond, ◌||◌, List, [], ◌∷◌, ◌==◌}
use Rattle.semantics.specs.Calls.{Call, preset, commit, perform, advance, begin, end, report, drop, settle, close, Answer, taken, refused, convicted}
use Rattle.semantics.specs.Calls
use Rattle.semantics.specs.Laws.{Rule, by_rule}
use Rattle.semantics.specs.State.{State, made}
use Rattle.semantics.specs.Step.{step}

-- A call, with what it answered.
pub record Event : Type 0 where
  pub call : Call
  pub answer : Answer

-- The newest stands first.
abbrev pub Trace : Type 0
Trace = List Event

abbrev pub met_with : Rule → State → Call → Event
met_with R s c = record { call = c; answer = (step (by_rule R) s c).answer }

-- A watch of n threads under the rule R, made new, has met this trace and holds this state.
pub data Follows (R : Rule) (n : ℕ) : Trace → State → Type 0 where
  new : Follows R n [] (made n)
  met : {tr : Trace} {s : State} → Follows R n tr s → (c : Call) → Follows R n (met_with R s c ∷ tr) (step (by_rule R) s c).state

-- The answer of a close that found nothing wrong.
abbrev pub says_clean : Answer → Bool
says_clean (taken k) = false
says_clean Calls.clean = true
says_clean (refused r) = false
says_clean (convicted c) = false

-- A close in the trace answered clean.
abbrev pub is_clean : Trace → Bool
is_clean [] = false
is_clean (e ∷ tr) = says_clean e.answer || is_clean tr

-- x where a call was taken with a number, and y where it answered clean, was refused or convicted.
abbrev pub if_taken : {A : Type 0} → Answer → A → A → A
if_taken (taken k) x y = x
if_taken Calls.clean x y = y
if_taken (refused r) x y = y
if_taken (convicted c) x y = y

-- The value of a place after a preset, if it was v before.
abbrev pub preset_by : Call → ℕ → ℕ → ℕ
preset_by (preset q w) p v = cond (p == q) w v
preset_by (commit t c q w) p v = v
preset_by (perform t n τ) p v = v
preset_by (advance t τ) p v = v
preset_by (begin t k q w τ) p v = v
preset_by (end t q w τ) p v = v
preset_by (report n) p v = v
preset_by (drop n) p v = v
preset_by settle p v = v
preset_by close p v = v

-- The starting value that the trace sets for a place, and 0 where it sets none.
abbrev pub starting : Trace → ℕ → ℕ
starting [] p = 0
starting (e ∷ tr) p = if_taken e.answer (preset_by e.call p (starting tr p)) (starting tr p)

-- The trace and the state after some more calls.
abbrev pub follow : Rule → List Call → Trace → State → Trace × State
follow R [] tr s = (tr, s)
follow R (c ∷ cs) tr s = follow R cs (met_with R s c ∷ tr) (step (by_rule R) s c).state
