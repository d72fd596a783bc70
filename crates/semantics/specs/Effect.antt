-- What a call that is not refused does, and what it answers. Assumes nothing.
use Rattle.std.specs.Prelude.{ℕ, ◌+◌, Bool, true, cond, not, ◌&&◌, ◌||◌, List, [], ◌∷◌, ◌++◌, Some, None, Option, ◌==◌, nat_eq, nat_lt}
use Rattle.std.specs.List.{filter}
use Rattle.std.specs.Option.{is_some}
use Rattle.semantics.specs.declared.row.Operation.{Operation}
use Rattle.semantics.specs.declared.row.Epoch.{Epoch}
use Rattle.semantics.specs.declared.row.Ended.{Ended}
use Rattle.semantics.specs.declared.verdict.Conviction.{Conviction}
use Rattle.semantics.specs.declared.verdict.Law.TheVariants.{Dropped}
use Rattle.semantics.specs.declared.verdict.Verdict.{Verdict}
use Rattle.semantics.specs.declared.verdict.Verdict.TheVariants.{Running, Clean, Guilty}
use Rattle.semantics.specs.Calls.{Call, preset, commit, perform, advance, begin, end, report, drop, settle, close, Answer, taken, convicted}
use Rattle.semantics.specs.Calls
use Rattle.semantics.specs.Classes.{reads, writes, operation, puts}
use Rattle.semantics.specs.Judging.{insert, Judging, judge, safe}
use Rattle.semantics.specs.Laws.{Precedes, forwarded, perform_laws, end_laws}
use Rattle.semantics.specs.Lists.{change}
use Rattle.semantics.specs.Puts.{put_clock, put_pending, put_epochs, committed, put_value, marked, put_thread, put_home, put_queues, put_counts, put_verdict, convict, without}
use Rattle.semantics.specs.State.{Thread, State, thread_of, home_of, outstanding_as, epoch_at, owed_as}

-- What a call leaves, and what it answers.
pub record Outcome : Type 0 where
  pub state : State
  pub answer : Answer

-- A conviction alters nothing but the verdict.
abbrev pub guilty : State → Conviction → Outcome
guilty s c = record { state = convict s c; answer = convicted c }

-- What a perform that reads answers: 1 from an outstanding store, 2 from the copy.
abbrev pub load_answer : Option Operation → ℕ
load_answer (Some x) = 1
load_answer None = 2

-- What a perform answers: 0 where nothing is read.
abbrev pub answer_of : Thread → Operation → ℕ
answer_of w o = cond (reads o.class) (load_answer (forwarded w o)) 0

-- An operation uses the copy if it writes it, or reads it for want of an outstanding store.
abbrev pub uses_copy : Thread → Operation → Bool
uses_copy w o = writes o.class || (reads o.class && not (is_some (forwarded w o)))

-- An epoch that an operation uses at a time: what writes puts its value into the copy.
abbrev pub touch : ℕ → Operation → Epoch → Epoch
touch τ o e = record { writes = e.writes; place = e.place; from = e.from; start = e.start; copy = cond (writes o.class) (puts o) e.copy; used = τ }

-- A thread's epochs after an operation performed.
abbrev pub touched : Thread → Operation → ℕ → List Epoch
touched w o τ = cond (uses_copy w o) (change (λ e. nat_eq e.place o.place) (touch τ o) w.epochs) w.epochs

abbrev pub performed : Thread → Operation → ℕ → Thread
performed w o τ = put_clock (put_epochs (put_pending w (filter (λ x. not (x.number == o.number)) w.pending)) (touched w o τ)) τ

-- The operation breaks a law or not; it was found or not (a call that is not refused always finds it).
abbrev pub performing : State → ℕ → ℕ → Operation → Option Conviction → Outcome
performing s t τ o (Some c) = guilty s c
performing s t τ o None = record { state = put_thread s t (performed (thread_of s t) o τ); answer = taken (answer_of (thread_of s t) o) }

abbrev pub perform_found : Precedes → State → ℕ → ℕ → Option Operation → Outcome
perform_found B s t τ None = record { state = s; answer = taken 0 }
perform_found B s t τ (Some o) = performing s t τ o (perform_laws B (thread_of s t) t o)

-- An epoch begins: it is open, the clock is its begin, the place has had a begin.
abbrev pub opened : (kind place value time : ℕ) → Epoch
opened k p v τ = record { writes = (k == 1); place = p; from = τ; start = v; copy = v; used = τ }

abbrev pub begun : State → ℕ → Epoch → State
begun s t e =
    let w : Thread = put_clock (put_epochs (thread_of s t) ((thread_of s t).epochs ++ (e ∷ []))) e.from in
    put_counts (put_home (put_thread s t w) e.place (marked (home_of s e.place))) (s.begins + 1) s.ends s.judged s.dropped

-- An epoch ends: it is owed under the next number, and the clock is its end.
abbrev pub ended_row : ℕ → ℕ → Epoch → ℕ → ℕ → Ended
ended_row n t e v τ = record { from = e.from; number = n; thread = t; writes = e.writes; place = e.place; until = τ; start = e.start; last = v }

abbrev pub ended : State → ℕ → Epoch → ℕ → ℕ → State
ended s t e v τ =
    let w : Thread = put_clock (put_epochs (thread_of s t) (filter (λ x. not (x.place == e.place)) (thread_of s t).epochs)) τ in
    put_counts (put_queues (put_thread s t w) (s.owed ++ (ended_row s.ends t e v τ ∷ [])) s.waiting) s.begins (s.ends + 1) s.judged s.dropped

abbrev pub ending : State → ℕ → Epoch → ℕ → ℕ → Option Conviction → Outcome
ending s t e v τ (Some c) = guilty s c
ending s t e v τ None = record { state = ended s t e v τ; answer = taken s.ends }

abbrev pub end_found : State → ℕ → ℕ → ℕ → Option Epoch → Outcome
end_found s t v τ None = record { state = s; answer = taken 0 }
end_found s t v τ (Some e) = ending s t e v τ (end_laws t e v τ)

abbrev pub report_found : State → ℕ → Option Ended → Outcome
report_found s n None = record { state = s; answer = taken 0 }
report_found s n (Some e) = record { state = put_queues s (without n s.owed) (insert e s.waiting); answer = taken 0 }

-- 29: an owed notice is dropped, which convicts unless the watch is convicted already.
abbrev pub dropping : Verdict → State → Conviction → Outcome
dropping (Guilty g) s c = record { state = s; answer = taken 0 }
dropping Running s c = guilty s c
dropping Clean s c = guilty s c

abbrev pub drop_found : State → ℕ → Option Ended → Outcome
drop_found s n None = record { state = s; answer = taken 0 }
drop_found s n (Some e) = dropping s.verdict
    (put_counts (put_queues s (without n s.owed) s.waiting) s.begins s.ends s.judged (s.dropped + 1))
    (record { law = Dropped; thread = e.thread; number = n; other = e.place })

-- Judging found a fault, or else the call is taken.
abbrev pub unless_fault : Option Conviction → State → Outcome → Outcome
unless_fault (Some c) s o = guilty s c
unless_fault None s o = o

abbrev pub settled : Judging → Outcome
settled j = unless_fault j.fault j.state (record { state = j.state; answer = taken j.done })

abbrev pub closed : Judging → Outcome
closed j = unless_fault j.fault j.state (record { state = put_verdict j.state Clean; answer = Calls.clean })

abbrev pub effect : Precedes → State → Call → Outcome
effect B s (preset p v) = record { state = put_home s p (put_value (home_of s p) v); answer = taken 0 }
effect B s (commit t c p v) =
    let w : Thread = thread_of s t in
    record { state = put_thread s t (committed w (operation w.commits c p v)); answer = taken w.commits }
effect B s (perform t n τ) = perform_found B s t τ (outstanding_as (thread_of s t) n)
effect B s (advance t τ) = record { state = put_thread s t (put_clock (thread_of s t) τ); answer = taken 0 }
effect B s (begin t k p v τ) = record { state = begun s t (opened k p v τ); answer = taken 0 }
effect B s (end t p v τ) = end_found s t v τ (epoch_at (thread_of s t) p)
effect B s (report n) = report_found s n (owed_as s n)
effect B s (drop n) = drop_found s n (owed_as s n)
effect B s settle = settled (judge (λ e. nat_lt e.from (safe s)) s s.waiting 0)
effect B s close = closed (judge (λ e. true) s s.waiting 0)
