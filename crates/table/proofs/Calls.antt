-- What each call of a thread leaves, by what its check found. Assumes nothing.
use Rattle.std.proofs.Common.{◌≡◌, ℕ, ◌+◌, ◌<◌, ◌≤◌, leb, List, [], ◌∷◌, ◌++◌, length, set, Some, None, sym, ap, ◌∙◌}
use Rattle.std.proofs.lemmas.Bool.{le-leb, lt-leb}
use Rattle.semantics.specs.declared.row.Ended.{Ended}
use Rattle.semantics.specs.declared.row.Epoch.{Epoch}
use Rattle.semantics.specs.declared.row.Operation.{Operation}
use Rattle.semantics.specs.declared.verdict.Conviction.{Conviction}
use Rattle.semantics.specs.declared.verdict.Limit.TheVariants as limit
use Rattle.semantics.specs.declared.verdict.Refusal.{Refusal}
use Rattle.semantics.specs.declared.verdict.Refusal.TheVariants.{Over}
use Rattle.semantics.specs.Calls.{preset, advance, commit, begin, perform, end, taken, convicted}
use Rattle.semantics.specs.Classes.{op_class}
use Rattle.semantics.specs.Effect.{Outcome, opened, performed, performing, perform_found, answer_of, end_found, ending, ended_row}
use Rattle.semantics.specs.Laws.{Precedes, perform_laws, end_laws}
use Rattle.semantics.specs.Lists.{first_of}
use Rattle.semantics.specs.Puts.{put_clock, put_epochs, committed, put_thread, put_home, put_value, put_counts, marked, convict}
use Rattle.semantics.specs.Refusals.{Test, refusals}
use Rattle.semantics.specs.State.{State, Thread, home_of, thread_of, epoch_at}
use Rattle.semantics.specs.Step.{step}
use Rattle.thread.specs.declared.served.Served.{Served}
use Rattle.thread.specs.Extent.{Extent}
use Rattle.thread.specs.Performing.{performed_number, used_at, retired, with_epoch, without_epoch, epoch_in, Serves, Performs, Ends, Spans}
use Rattle.thread.specs.Tests.{advance_tests, commit_tests, perform_tests, begin_tests, end_tests, committed_row}
use Rattle.thread.proofs.Tests.{skip, stop}
use Rattle.table.specs.Checks.{Known, MayPerform, MayEnd}
use Rattle.table.specs.Told.{Meets}
use Rattle.table.proofs.Answers.{takes, tested, row_at, first_later, first_earlier}
use Rattle.table.proofs.Threads.{ends_place, ends_fewer}

pub presets : (B : Precedes) (s : State) (p v : ℕ) → first_of (refusals s (preset p 0)) ≡ None → Meets B s (preset p v) (taken 0) (put_home s p (put_value (home_of s p) v))
presets B s p v f = sym (takes B s (preset p v) f)

pub advances : (B : Precedes) (s : State) (t τ row : ℕ) → Known s t row → first_of (advance_tests τ (thread_of s row)) ≡ None
    → Meets B s (advance t τ) (taken 0) (put_thread s t (put_clock (thread_of s row) τ))
advances B s t τ row k f =
    let F : Thread → Outcome = λ w. record { state = put_thread s t (put_clock w τ); answer = taken 0 } in
    sym (takes B s (advance t τ) (tested s t row (advance_tests τ) k ∙ f) ∙ ap F (row_at s t row k))

pub commits : (B : Precedes) (s : State) (t c p v row : ℕ) → Known s t row → first_of (commit_tests c p (thread_of s row)) ≡ None
    → Meets B s (commit t c p v) (taken (thread_of s row).commits) (put_thread s t (committed (thread_of s row) (committed_row (thread_of s row).commits (op_class c) p v)))
commits B s t c p v row k f =
    let F : Thread → Outcome = λ w. record { state = put_thread s t (committed w (committed_row w.commits (op_class c) p v)); answer = taken w.commits } in
    sym (takes B s (commit t c p v) (tested s t row (commit_tests c p) k ∙ f) ∙ ap F (row_at s t row k))

-- A state in which an epoch begins.
abbrev pub begun_at : State → ℕ → List Thread → State
begun_at s p ts = put_counts (record { threads = ts; homes = set s.homes p (marked (home_of s p)); owed = s.owed; waiting = s.waiting; begins = s.begins; ends = s.ends; judged = s.judged; dropped = s.dropped; verdict = s.verdict }) (s.begins + 1) s.ends s.judged s.dropped

-- The limit of begins.
abbrev begin_limit : State → List Test
begin_limit s = (leb 1000000 s.begins, Over limit.Begins) ∷ []

-- The tests of a begin: those of the thread, then the limit.
abbrev begin_all : State → ℕ → ℕ → ℕ → Thread → List Test
begin_all s k p τ w = begin_tests k p τ w ++ begin_limit s

module _ (s : State) (t k p v τ row : ℕ) (n : Known s t row) where
  abbrev the_row : Thread
  the_row = thread_of s row

  pub begin_refused : (f : Refusal) → first_of (begin_tests k p τ the_row) ≡ Some f → first_of (refusals s (begin t k p v τ)) ≡ Some f
  begin_refused f e = tested s t row (begin_all s k p τ) n ∙ first_earlier (begin_tests k p τ the_row) (begin_limit s) f e

  pub begin_over : first_of (begin_tests k p τ the_row) ≡ None → 1000000 ≤ s.begins → first_of (refusals s (begin t k p v τ)) ≡ Some (Over limit.Begins)
  begin_over e l = tested s t row (begin_all s k p τ) n ∙ first_later (begin_tests k p τ the_row) (begin_limit s) e ∙ stop (leb 1000000 s.begins) (Over limit.Begins) [] (le-leb 1000000 s.begins l)

  begin_free : first_of (begin_tests k p τ the_row) ≡ None → s.begins < 1000000 → first_of (refusals s (begin t k p v τ)) ≡ None
  begin_free e l = tested s t row (begin_all s k p τ) n ∙ first_later (begin_tests k p τ the_row) (begin_limit s) e ∙ skip (leb 1000000 s.begins) (Over limit.Begins) [] (lt-leb 1000000 s.begins l)

  pub begins : (B : Precedes) → first_of (begin_tests k p τ the_row) ≡ None → s.begins < 1000000
      → Meets B s (begin t k p v τ) (taken 0) (begun_at s p (set s.threads t (with_epoch (opened k p v τ) the_row)))
  begins B e l =
      let F : Thread → Outcome = λ w. record { state = begun_at s p (set s.threads t (with_epoch (opened k p v τ) w)); answer = taken 0 } in
      sym (takes B s (begin t k p v τ) (begin_free e l) ∙ ap F (row_at s t row n))

-- A perform.
pub may_perform : (s : State) (t n τ row : ℕ) (o : Operation) → Known s t row → Performs (thread_of s row) n τ o → MayPerform s t n τ row o
may_perform s t n τ row o k m = record { free = tested s t row (perform_tests n τ) k ∙ m.free; thread = k; performs = m }

pub may_not_perform : (s : State) (t n τ row : ℕ) (f : Refusal) → Known s t row → first_of (perform_tests n τ (thread_of s row)) ≡ Some f → first_of (refusals s (perform t n τ)) ≡ Some f
may_not_perform s t n τ row f k m = tested s t row (perform_tests n τ) k ∙ m

found_step : (B : Precedes) (s : State) (t n τ row : ℕ) (o : Operation) → MayPerform s t n τ row o → step B s (perform t n τ) ≡ performing s t τ o (perform_laws B (thread_of s row) t o)
found_step B s t n τ row o m =
    takes B s (perform t n τ) m.free
    ∙ ap (perform_found B s t τ) (ap (λ w. Rattle.semantics.specs.State.outstanding_as w n) (row_at s t row m.thread) ∙ m.performs.found)
    ∙ ap (λ w. performing s t τ o (perform_laws B w t o)) (row_at s t row m.thread)

-- A row after its operation performed.
abbrev pub performed_row : Thread → Operation → Served → ℕ → Thread
performed_row w o v τ = put_clock (put_epochs (retired o.number w) (used_at τ o v.uses w.epochs)) τ

pub performs : (B : Precedes) (s : State) (t n τ row : ℕ) (o : Operation) (v : Served) → MayPerform s t n τ row o
    → perform_laws B (thread_of s row) t o ≡ None → Serves (thread_of s row) o v
    → Meets B s (perform t n τ) (taken (performed_number v.answer)) (put_thread s t (performed_row (thread_of s row) o v τ))
performs B s t n τ row o v m l h =
    let w = thread_of s row in
    let e : thread_of s t ≡ w = row_at s t row m.thread in
    let done : Thread → Outcome = λ x. record { state = put_thread s t (performed x o τ); answer = taken (answer_of x o) } in
    let left : List Epoch → ℕ → Outcome = λ es a. record { state = put_thread s t (put_clock (put_epochs (retired o.number w) es) τ); answer = taken a } in
    sym (found_step B s t n τ row o m ∙ ap (performing s t τ o) l ∙ ap done e
    ∙ ap (λ es. left es (answer_of w o)) (h.uses τ) ∙ ap (left (used_at τ o v.uses w.epochs)) (sym h.answer))

pub convicts : (B : Precedes) (s : State) (t n τ row : ℕ) (o : Operation) (c : Conviction) → MayPerform s t n τ row o → perform_laws B (thread_of s row) t o ≡ Some c
    → Meets B s (perform t n τ) (convicted c) (convict s c)
convicts B s t n τ row o c m l = sym (found_step B s t n τ row o m ∙ ap (performing s t τ o) l)

-- The limit of owed notices.
abbrev owed_limit : State → List Test
owed_limit s = (leb 32 (length s.owed), Over limit.Owed) ∷ []

-- The tests of an end: those of the thread, then the limit.
abbrev end_all : State → ℕ → ℕ → Thread → List Test
end_all s p τ w = end_tests p τ w ++ owed_limit s

module _ (s : State) (t p τ row : ℕ) (k : Known s t row) where
  pub end_refused : (f : Refusal) → first_of (end_tests p τ (thread_of s row)) ≡ Some f → first_of (refusals s (end t p 0 τ)) ≡ Some f
  end_refused f e = tested s t row (end_all s p τ) k ∙ first_earlier (end_tests p τ (thread_of s row)) (owed_limit s) f e

  pub end_over : first_of (end_tests p τ (thread_of s row)) ≡ None → 32 ≤ length s.owed → first_of (refusals s (end t p 0 τ)) ≡ Some (Over limit.Owed)
  end_over e l =
      tested s t row (end_all s p τ) k ∙ first_later (end_tests p τ (thread_of s row)) (owed_limit s) e
      ∙ stop (leb 32 (length s.owed)) (Over limit.Owed) [] (le-leb 32 (length s.owed) l)

  pub may_end : (i : ℕ) → Ends (thread_of s row) p τ i → length s.owed < 32 → MayEnd s t p τ row i
  may_end i m l = record {
    free = tested s t row (end_all s p τ) k ∙ first_later (end_tests p τ (thread_of s row)) (owed_limit s) m.free
        ∙ skip (leb 32 (length s.owed)) (Over limit.Owed) [] (lt-leb 32 (length s.owed) l);
    thread = k;
    ends = m;
    place = ends_place (thread_of s row) p τ i m;
    fewer = ends_fewer (thread_of s row) p τ i m;
    room = l;
  }

-- A state in which an epoch has ended.
abbrev pub ended_at : State → List Thread → List Ended → State
ended_at s ts os = record { threads = ts; homes = s.homes; owed = os; waiting = s.waiting; begins = s.begins; ends = s.ends + 1; judged = s.judged; dropped = s.dropped; verdict = s.verdict }

end_step : (B : Precedes) (s : State) (t p v τ row i : ℕ) → MayEnd s t p τ row i
    → step B s (end t p v τ) ≡ ending s t (epoch_in (thread_of s row) i) v τ (end_laws t (epoch_in (thread_of s row) i) v τ)
end_step B s t p v τ row i m =
    takes B s (end t p v τ) m.free
    ∙ ap (λ x. end_found s t v τ (epoch_at x p)) (row_at s t row m.thread)
    ∙ ap (end_found s t v τ) m.ends.found

pub end_convicts : (B : Precedes) (s : State) (t p v τ row i : ℕ) (c : Conviction) → MayEnd s t p τ row i → end_laws t (epoch_in (thread_of s row) i) v τ ≡ Some c
    → Meets B s (end t p v τ) (convicted c) (convict s c)
end_convicts B s t p v τ row i c m l = sym (end_step B s t p v τ row i m ∙ ap (ending s t (epoch_in (thread_of s row) i) v τ) l)

pub ends : (B : Precedes) (s : State) (t p v τ row i : ℕ) → MayEnd s t p τ row i → end_laws t (epoch_in (thread_of s row) i) v τ ≡ None
    → Meets B s (end t p v τ) (taken s.ends) (ended_at s (set s.threads t (without_epoch p τ (thread_of s row))) (s.owed ++ (ended_row s.ends t (epoch_in (thread_of s row) i) v τ ∷ [])))
ends B s t p v τ row i m l =
    let r = thread_of s row in
    let e = epoch_in r i in
    let F : Thread → ℕ → Outcome = λ w z. record { state = ended_at s (set s.threads t (without_epoch z τ w)) (s.owed ++ (ended_row s.ends t e v τ ∷ [])); answer = taken s.ends } in
    sym (end_step B s t p v τ row i m ∙ ap (ending s t e v τ) l ∙ ap (λ w. F w e.place) (row_at s t row m.thread) ∙ ap (F r) m.place)

-- What is owed of an epoch that ended with no law broken.
pub owed_plain : (n t : ℕ) (e x : Epoch) (v τ : ℕ) (span : Extent) → Spans t e v τ span → x ≡ e
    → ◌≡◌ {A = Ended} (record { from = span.begin; number = n; thread = t; writes = x.writes; place = x.place; until = span.end; start = x.start; last = v }) (ended_row n t e v τ)
owed_plain n t e x v τ span h q = λ i. record { from = h.begin i; number = n; thread = t; writes = (q i).writes; place = (q i).place; until = h.end i; start = (q i).start; last = v }
