-- The calls that a watch meets, and what it answers. Assumes nothing.
use Rattle.std.specs.Prelude.{ℕ}
use Rattle.semantics.specs.declared.verdict.Conviction.{Conviction}
use Rattle.semantics.specs.declared.verdict.Refusal.{Refusal}

-- The ten calls, with whatever numbers.
pub data Call : Type 0 where
  preset : (place value : ℕ) → Call
  commit : (thread class place value : ℕ) → Call
  perform : (thread number time : ℕ) → Call
  advance : (thread time : ℕ) → Call
  begin : (thread kind place value time : ℕ) → Call
  end : (thread place value time : ℕ) → Call
  report : (number : ℕ) → Call
  drop : (number : ℕ) → Call
  settle : Call
  close : Call

-- Taken with a number; or, from a close, clean; or refused; or convicted.
pub data Answer : Type 0 where
  taken : ℕ → Answer
  clean : Answer
  refused : Refusal → Answer
  convicted : Conviction → Answer
