-- How a watch's state is changed: each function puts one part of it. Assumes nothing.
use Rattle.std.specs.Prelude.{ℕ, ◌+◌, true, not, List, [], ◌∷◌, ◌++◌, ◌==◌, slice_set}
use Rattle.std.specs.List.{filter}
use Rattle.semantics.specs.declared.row.Operation.{Operation}
use Rattle.semantics.specs.declared.row.Epoch.{Epoch}
use Rattle.semantics.specs.declared.row.Ended.{Ended}
use Rattle.semantics.specs.declared.row.Home.{Home}
use Rattle.semantics.specs.declared.verdict.Conviction.{Conviction}
use Rattle.semantics.specs.declared.verdict.Verdict.{Verdict}
use Rattle.semantics.specs.declared.verdict.Verdict.TheVariants.{Guilty}
use Rattle.semantics.specs.State.{Thread, State}

-- In a thread.
abbrev pub put_clock : Thread → ℕ → Thread
put_clock w τ = record { clock = τ; commits = w.commits; pending = w.pending; epochs = w.epochs }

abbrev pub put_pending : Thread → List Operation → Thread
put_pending w os = record { clock = w.clock; commits = w.commits; pending = os; epochs = w.epochs }

abbrev pub put_epochs : Thread → List Epoch → Thread
put_epochs w es = record { clock = w.clock; commits = w.commits; pending = w.pending; epochs = es }

-- One operation more.
abbrev pub committed : Thread → Operation → Thread
committed w o = record { clock = w.clock; commits = w.commits + 1; pending = w.pending ++ (o ∷ []); epochs = w.epochs }

-- In a home.
abbrev pub put_value : Home → ℕ → Home
put_value h v = record { value = v; read_end = h.read_end; write_end = h.write_end; begun = h.begun }

abbrev pub put_ends : Home → ℕ → ℕ → Home
put_ends h r w = record { value = h.value; read_end = r; write_end = w; begun = h.begun }

-- The place has had a begin.
abbrev pub marked : Home → Home
marked h = record { value = h.value; read_end = h.read_end; write_end = h.write_end; begun = true }

-- In the watch.
abbrev pub put_thread : State → ℕ → Thread → State
put_thread s t w = record { threads = slice_set s.threads t w; homes = s.homes; owed = s.owed; waiting = s.waiting; begins = s.begins; ends = s.ends; judged = s.judged; dropped = s.dropped; verdict = s.verdict }

abbrev pub put_home : State → ℕ → Home → State
put_home s p h = record { threads = s.threads; homes = slice_set s.homes p h; owed = s.owed; waiting = s.waiting; begins = s.begins; ends = s.ends; judged = s.judged; dropped = s.dropped; verdict = s.verdict }

abbrev pub put_queues : State → List Ended → List Ended → State
put_queues s o w = record { threads = s.threads; homes = s.homes; owed = o; waiting = w; begins = s.begins; ends = s.ends; judged = s.judged; dropped = s.dropped; verdict = s.verdict }

abbrev pub put_counts : State → ℕ → ℕ → ℕ → ℕ → State
put_counts s b e j d = record { threads = s.threads; homes = s.homes; owed = s.owed; waiting = s.waiting; begins = b; ends = e; judged = j; dropped = d; verdict = s.verdict }

abbrev pub put_verdict : State → Verdict → State
put_verdict s v = record { threads = s.threads; homes = s.homes; owed = s.owed; waiting = s.waiting; begins = s.begins; ends = s.ends; judged = s.judged; dropped = s.dropped; verdict = v }

abbrev pub convict : State → Conviction → State
convict s c = put_verdict s (Guilty c)

-- What is owed without the number n.
abbrev pub without : ℕ → List Ended → List Ended
without n es = filter (λ e. not (e.number == n)) es
