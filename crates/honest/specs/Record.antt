-- What it means that a list of calls records a run of the memory machine. Assumes nothing.
use Rattle.std.specs.Prelude.{◌≡◌, ℕ, ◌+◌, ◌<◌, ◌≤◌, Bool, true, false, cond, List, [], ◌∷◌, ◌++◌, Some, None, Option, ◌==◌}
use Rattle.std.specs.List.{filter}
use Rattle.semantics.specs.Calls.{Call, preset, commit, perform, advance, begin, end, report, drop, settle, close}
use Rattle.semantics.specs.Laws.{Precedes}
use Rattle.semantics.specs.Limits.{last_place}
use Rattle.semantics.specs.Trace.{preset_by}
use Rattle.honest.specs.Machine.{Machine, Run, starting, AtRest}

-- What stands before the steps: presets, and perhaps settles, which may stand anywhere.
pub data Opening : List Call → Type 0 where
  nothing : Opening []
  presets : {cs : List Call} (p v : ℕ) → p ≤ last_place → Opening cs → Opening (preset p v ∷ cs)
  settles : {cs : List Call} → Opening cs → Opening (settle ∷ cs)

-- The memory that some presets make of another: the last preset of a place counts.
abbrev pub preset_memory : (ℕ → ℕ) → List Call → ℕ → ℕ
preset_memory f [] = f
preset_memory f (c ∷ cs) = preset_memory (λ p. preset_by c p (f p)) cs

-- The thread of which a call writes down a step.
abbrev pub stepping : Call → Option ℕ
stepping (preset p v) = None
stepping (commit t c p v) = Some t
stepping (perform t k τ) = Some t
stepping (advance t τ) = None
stepping (begin t k p v τ) = Some t
stepping (end t p v τ) = Some t
stepping (report k) = None
stepping (drop k) = None
stepping settle = None
stepping close = None

-- The thread and the time of a call that has a time.
abbrev pub moment : Call → Option (ℕ × ℕ)
moment (preset p v) = None
moment (commit t c p v) = None
moment (perform t k τ) = Some (t, τ)
moment (advance t τ) = Some (t, τ)
moment (begin t k p v τ) = Some (t, τ)
moment (end t p v τ) = Some (t, τ)
moment (report k) = None
moment (drop k) = None
moment settle = None
moment close = None

-- The number of the notice that a call reports.
abbrev pub reporting : Call → Option ℕ
reporting (preset p v) = None
reporting (commit t c p v) = None
reporting (perform t k τ) = None
reporting (advance t τ) = None
reporting (begin t k p v τ) = None
reporting (end t p v τ) = None
reporting (report k) = Some k
reporting (drop k) = None
reporting settle = None
reporting close = None

abbrev pub is_end : Call → Bool
is_end (preset p v) = false
is_end (commit t c p v) = false
is_end (perform t k τ) = false
is_end (advance t τ) = false
is_end (begin t k p v τ) = false
is_end (end t p v τ) = true
is_end (report k) = false
is_end (drop k) = false
is_end settle = false
is_end close = false

abbrev pub is : ℕ → Option ℕ → Bool
is k None = false
is k (Some i) = i == k

-- Those of some calls that are a thread's steps, in their order.
abbrev pub own_step : ℕ → Call → Bool
own_step t c = is t (stepping c)

abbrev pub own_steps : ℕ → List Call → List Call
own_steps t cs = filter (own_step t) cs

abbrev pub is_report : ℕ → Call → Bool
is_report k c = is k (reporting c)

-- How many of some calls pass a test.
abbrev pub count : (Call → Bool) → List Call → ℕ
count f [] = 0
count f (c ∷ cs) = cond (f c) (count f cs + 1) (count f cs)

-- A thread's clock: the time of its last call that had one, and 0 at first.
abbrev pub clock_at : ℕ → Option (ℕ × ℕ) → ℕ → ℕ
clock_at t None x = x
clock_at t (Some m) x = cond (t == m.0) m.1 x

abbrev pub clock_from : ℕ → ℕ → List Call → ℕ
clock_from t x [] = x
clock_from t x (c ∷ cs) = clock_from t (clock_at t (moment c) x) cs

abbrev pub clock : ℕ → List Call → ℕ
clock t cs = clock_from t 0 cs

-- A thread's next time: that of its next call that has one.
abbrev pub time_at : ℕ → Option (ℕ × ℕ) → Option ℕ → Option ℕ
time_at t None x = x
time_at t (Some m) x = cond (m.0 == t) (Some m.1) x

abbrev pub next_time : ℕ → List Call → Option ℕ
next_time t [] = None
next_time t (c ∷ cs) = time_at t (moment c) (next_time t cs)

abbrev pub NotAfter : ℕ → Option ℕ → Type 0
NotAfter τ None = Unit {0}
NotAfter τ (Some x) = τ ≤ x

-- Where a call may stand between the presets and the close, by what stands before it and later. An advance lies between the clock and the next time of its thread.
-- A report of notice k comes after the end that hands it out, the k-th of the list from 0, and no other reports it before. A settle stands anywhere, a drop nowhere.
abbrev pub Stands : ℕ → List Call → Call → List Call → Type 0
Stands n before (preset p v) later = ⊥
Stands n before (commit t c p v) later = Unit {0}
Stands n before (perform t k τ) later = Unit {0}
Stands n before (advance t τ) later = (t < n) × (clock t before ≤ τ) × NotAfter τ (next_time t later)
Stands n before (begin t k p v τ) later = Unit {0}
Stands n before (end t p v τ) later = Unit {0}
Stands n before (report k) later = (k < count is_end before) × (count (is_report k) before ≡ 0)
Stands n before (drop k) later = ⊥
Stands n before settle later = Unit {0}
Stands n before close later = ⊥

abbrev pub InPlace : ℕ → List Call → List Call → Type 0
InPlace n before [] = Unit {0}
InPlace n before (c ∷ later) = Stands n before c later × InPlace n (before ++ (c ∷ [])) later

-- The calls are the presets, then a body, then a close. The body holds, thread by thread, the steps of a run that starts with the presets and ends at rest:
-- each thread's own are in its order, and threads are mixed freely. Every notice that is handed out is reported.
pub record Records (B : Precedes) (n : ℕ) (calls : List Call) : Type 0 where
  pub opening : List Call
  pub body : List Call
  pub steps : List Call
  pub final : Machine
  pub laid_out : calls ≡ opening ++ (body ++ (close ∷ []))
  pub opens : Opening opening
  pub run : Run B n (starting (preset_memory (λ p. 0) opening)) steps final
  pub at_rest : AtRest final
  pub own : (t : ℕ) → own_steps t body ≡ own_steps t steps
  pub in_place : InPlace n [] body
  pub reported : (k : ℕ) → k < count is_end body → count (is_report k) body ≡ 1
