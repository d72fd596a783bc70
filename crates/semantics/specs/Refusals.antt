-- When a call is refused: for each call its tests, in checking order. Assumes nothing.
use Rattle.std.specs.Prelude.{ℕ, Bool, true, not, ◌&&◌, ◌||◌, List, [], ◌∷◌, ◌++◌, length, ◌==◌, nat_le, nat_lt}
use Rattle.std.specs.Option.{is_some}
use Rattle.semantics.specs.declared.verdict.Limit.TheVariants as limit
use Rattle.semantics.specs.declared.verdict.Refusal.{Refusal}
use Rattle.semantics.specs.declared.verdict.Refusal.TheVariants.{ThreadCount, Convicted, Closed, UnknownThread, UnknownClass, UnknownPlace, PastTime, NotOutstanding, AlreadyBegun, NotOpen, NotOwed, Over, Unfinished}
use Rattle.semantics.specs.declared.verdict.Verdict.{Verdict}
use Rattle.semantics.specs.declared.verdict.Verdict.TheVariants.{Running, Clean, Guilty}
use Rattle.semantics.specs.Calls.{Call, preset, commit, perform, advance, begin, end, report, drop, settle, close}
use Rattle.semantics.specs.Classes.{last_class, op_class, touches}
use Rattle.semantics.specs.Limits.{most_threads, last_place, last_kind, most_outstanding, most_commits, most_open, most_begins, most_owed, most_waiting}
use Rattle.semantics.specs.State.{State, thread_of, home_of, outstanding_as, epoch_at, owed_as, busy}

-- A test, and the refusal that it means where it holds.
abbrev pub Test : Type 0
Test = Bool × Refusal

-- A watch that is convicted or closed has stopped.
abbrev pub stopped_by : Verdict → List Test
stopped_by Running = []
stopped_by (Guilty c) = (true, Convicted) ∷ []
stopped_by Clean = (true, Closed) ∷ []

abbrev pub stopped : State → List Test
stopped s = stopped_by s.verdict

-- The thread is none of the watch's.
abbrev pub no_thread : State → ℕ → Test
no_thread s t = (nat_le (length s.threads) t, UnknownThread)

-- The time lies before the thread's clock.
abbrev pub past : State → ℕ → ℕ → Test
past s t τ = (nat_lt τ (thread_of s t).clock, PastTime)

abbrev pub no_place : ℕ → Test
no_place p = (nat_lt last_place p, UnknownPlace)

-- The tests after the first, which asks whether the watch has stopped.
abbrev pub checks : State → Call → List Test
checks s (preset p v) = no_place p ∷ ((home_of s p).begun, AlreadyBegun) ∷ []
checks s (commit t c p v) =
    no_thread s t ∷ (nat_lt last_class c, UnknownClass) ∷ (touches (op_class c) && nat_lt last_place p, UnknownPlace)
    ∷ (nat_le most_outstanding (length (thread_of s t).pending), Over limit.Outstanding)
    ∷ (nat_le most_commits (thread_of s t).commits, Over limit.Commits) ∷ []
checks s (perform t n τ) = no_thread s t ∷ past s t τ ∷ (not (is_some (outstanding_as (thread_of s t) n)), NotOutstanding) ∷ []
checks s (advance t τ) = no_thread s t ∷ past s t τ ∷ []
checks s (begin t k p v τ) =
    no_thread s t ∷ (nat_lt last_kind k, UnknownClass) ∷ no_place p ∷ past s t τ
    ∷ (is_some (epoch_at (thread_of s t) p), AlreadyBegun)
    ∷ (nat_le most_open (length (thread_of s t).epochs), Over limit.Open)
    ∷ (nat_le most_begins s.begins, Over limit.Begins) ∷ []
checks s (end t p v τ) =
    no_thread s t ∷ no_place p ∷ past s t τ ∷ (not (is_some (epoch_at (thread_of s t) p)), NotOpen)
    ∷ (nat_le most_owed (length s.owed), Over limit.Owed) ∷ []
checks s (report n) = (not (is_some (owed_as s n)), NotOwed) ∷ (nat_le most_waiting (length s.waiting), Over limit.Waiting) ∷ []
checks s (drop n) = (not (is_some (owed_as s n)), NotOwed) ∷ []
checks s settle = []
checks s close = (not (busy s == 0), Unfinished) ∷ []

-- A drop alone is taken by a watch that has stopped.
abbrev pub halted : State → Call → List Test
halted s (preset p v) = stopped s
halted s (commit t c p v) = stopped s
halted s (perform t n τ) = stopped s
halted s (advance t τ) = stopped s
halted s (begin t k p v τ) = stopped s
halted s (end t p v τ) = stopped s
halted s (report n) = stopped s
halted s (drop n) = []
halted s settle = stopped s
halted s close = stopped s

abbrev pub refusals : State → Call → List Test
refusals s c = halted s c ++ checks s c

-- The making of a watch of n threads.
abbrev pub making_checks : ℕ → List Test
making_checks n = (n == 0 || nat_lt most_threads n, ThreadCount) ∷ []

-- The question of how much a thread may still commit.
abbrev pub spare_checks : State → ℕ → List Test
spare_checks s t = no_thread s t ∷ []
