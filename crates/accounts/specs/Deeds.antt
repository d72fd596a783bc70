-- What a call and its answer do to the epochs. Assumes nothing.
use Rattle.std.specs.Prelude.{ℕ, ◌==◌}
use Rattle.semantics.specs.declared.row.Ended.{Ended}
use Rattle.semantics.specs.Calls.{Call, preset, commit, perform, advance, begin, end, report, drop, settle, close, Answer, taken, refused, convicted}
use Rattle.semantics.specs.Calls

-- A deed: an epoch begins, with what is known of it then; or that of a thread and place ends, under a number;
-- or that of a number is reported or dropped; or some are judged, as many as the answer tells; or nothing.
pub data Deed : Type 0 where
  begins : (row : Ended) → Deed
  ends : (thread place number value time : ℕ) → Deed
  reports : (number : ℕ) → Deed
  drops : (number : ℕ) → Deed
  judges : Answer → Deed
  nothing : Deed

-- What is known of an epoch when it begins; number, end and last value are 0 until it ends.
abbrev pub opened : (thread kind place value time : ℕ) → Ended
opened t k p v τ = record { from = τ; number = 0; thread = t; writes = (k == 1); place = p; until = 0; start = v; last = 0 }

-- What a taken call does, by the number that it answers.
abbrev pub when_taken : Answer → (ℕ → Deed) → Deed
when_taken (taken k) f = f k
when_taken Calls.clean f = nothing
when_taken (refused r) f = nothing
when_taken (convicted c) f = nothing

-- What a call does even where it convicts.
abbrev pub unless_refused : Answer → Deed → Deed
unless_refused (taken k) d = d
unless_refused Calls.clean d = d
unless_refused (refused r) d = nothing
unless_refused (convicted c) d = d

abbrev pub deed : Call → Answer → Deed
deed (preset p v) a = nothing
deed (commit t c p v) a = nothing
deed (perform t n τ) a = nothing
deed (advance t τ) a = nothing
deed (begin t k p v τ) a = when_taken a (λ _. begins (opened t k p v τ))
deed (end t p v τ) a = when_taken a (λ n. ends t p n v τ)
deed (report n) a = when_taken a (λ _. reports n)
deed (drop n) a = unless_refused a (drops n)
deed settle a = unless_refused a (judges a)
deed close a = unless_refused a (judges a)
