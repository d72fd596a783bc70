-- Each call keeps what holds of a watch and its trace. Assumes nothing.
use Rattle.std.proofs.Common.{◌≡◌, ℕ, zero, suc, ◌+◌, ◌<◌, Bool, true, false, not, eqb, ltb, List, [], ◌∷◌, ◌++◌, length, get_or, Some, None, Option, sym, refl, ap, ◌∙◌, subst, inl, ⊎_elim, arith}
use Rattle.std.proofs.lemmas.List.{nil_from_length}
use Rattle.std.proofs.lemmas.Bool.{both_ways, eqb-true, not-false, ltb-true, ltb-false, leb-false}
use Rattle.std.specs.List.{find}
use Rattle.std.specs.Option.{is_some}
use Rattle.semantics.specs.declared.row.Operation.{Operation}
use Rattle.semantics.specs.declared.row.Epoch.{Epoch}
use Rattle.semantics.specs.declared.row.Ended.{Ended}
use Rattle.semantics.specs.declared.row.Home.{Home}
use Rattle.semantics.specs.declared.verdict.Conviction.{Conviction}
use Rattle.semantics.specs.declared.verdict.Refusal.{Refusal}
use Rattle.semantics.specs.declared.verdict.Verdict.{Verdict}
use Rattle.semantics.specs.declared.verdict.Verdict.TheVariants.{Running, Clean, Guilty}
use Rattle.semantics.specs.Calls.{Call, preset, commit, perform, advance, begin, end, report, drop, settle, close, taken}
use Rattle.semantics.specs.Calls
use Rattle.semantics.specs.Effect.{Outcome, answer_of, performed, opened, unless_fault, settled, closed, perform_found, performing, end_found, ending, report_found, drop_found}
use Rattle.semantics.specs.Judging.{Judging, judge, judged_one, stop_at, go_on, home_laws, safe}
use Rattle.semantics.specs.Laws.{Rule, by_rule, perform_laws, law25, law26, end_laws}
use Rattle.semantics.specs.Limits.{last_place}
use Rattle.semantics.specs.Lists.{first_of}
use Rattle.semantics.specs.Puts.{put_thread, put_verdict}
use Rattle.semantics.specs.Refusals.{refusals}
use Rattle.semantics.specs.State.{Thread, State, idle, thread_of, home_of, outstanding_as, epoch_at, owed_as, busy_threads, busy}
use Rattle.semantics.specs.Step.{answered, step}
use Rattle.semantics.specs.Trace.{Trace, starting}
use Rattle.consistency.specs.Performed.{nothing, program, performs}
use Rattle.consistency.specs.Consistent.{ConsistentOps, PerformedOnce, KeepsPlaces, CopiesAreLatest}
use Rattle.consistency.proofs.Lists.{Mem, find_some}
use Rattle.consistency.proofs.Outstanding.{Ops, done_as, Outstanding, Sources, Times}
use Rattle.consistency.proofs.Epochs.{Epochs, same_past_keeps_epochs}
use Rattle.consistency.proofs.Laws.{perform_facts}
use Rattle.consistency.proofs.Tests.{first_some_none, cond_none, Passes, passes}
use Rattle.consistency.proofs.Judging.{Leaves, judging_leaves}
use Rattle.consistency.proofs.Invariant.{Past, WatchHolds, StateHolds, preset_keeps, commit_keeps, perform_keeps, advance_keeps, begin_keeps, end_keeps, report_keeps, judge_keeps}
use Rattle.consistency.proofs.Consistent.{all_consistent, places_kept, performed_once, copies_latest}

-- What a clean close shows of what performed.
pub record Shown (R : Rule) (prog : ℕ → List Operation) (ops : Ops) (start : ℕ → ℕ) : Type 0 where
  pub consistent : ConsistentOps R prog ops start
  pub places : KeepsPlaces ops
  pub copies : CopiesAreLatest ops start
  pub all_performed : (t m : ℕ) → m < length (prog t) → PerformedOnce (prog t) ops t m

-- What holds of a watch after a trace, by its verdict.
abbrev pub StandsBy : Verdict → Rule → Trace → State → Type 0
StandsBy Running R tr s = StateHolds R (performs tr) (λ t. program t tr) (starting tr) s
StandsBy Clean R tr s = Shown R (λ t. program t tr) (performs tr) (starting tr)
StandsBy (Guilty c) R tr s = Unit {0}

abbrev pub Stands : Rule → Trace → State → Type 0
Stands R tr s = StandsBy s.verdict R tr s

-- What holds after one more call.
abbrev pub Next : Rule → Trace → Call → Outcome → Type 0
Next R tr c out = Stands R (record { call = c; answer = out.answer } ∷ tr) out.state

-- Judging keeps what holds.
judging_keeps : {R : Rule} {ops : Ops} {prog : ℕ → List Operation} {start : ℕ → ℕ} (due : Ended → Bool) (es : List Ended) (s : State) (k : ℕ) → WatchHolds R ops prog start s.threads s.homes s.owed es s.ends
    → StateHolds R ops prog start (judge due s es k).state
judging_keeps due [] s k i = i
judging_keeps {R} {ops} {prog} {start} due (e ∷ es) s k i = by (due e) (home_laws (home_of s e.place) e) refl (λ l. judging_keeps due es (judged_one s e) (k + 1) (judge_keeps e es l i))
  where
    by : (b : Bool) (x : Option Conviction) → home_laws (home_of s e.place) e ≡ x
        → (home_laws (home_of s e.place) e ≡ None → StateHolds R ops prog start (judge due (judged_one s e) es (k + 1)).state)
        → StateHolds R ops prog start (go_on b x (stop_at s (e ∷ es) k) (judge due (judged_one s e) es (k + 1))).state
    by true None q next = next q
    by true (Some c) q next = i
    by false None q next = i
    by false (Some c) q next = i

-- Nothing is outstanding or open.
idle_threads : (ws : List Thread) → busy_threads ws ≡ 0 → (t : ℕ) → ((get_or ws t idle).pending ≡ []) × ((get_or ws t idle).epochs ≡ [])
idle_threads [] h t = (refl, refl)
idle_threads (w ∷ ws) h zero = (nil_from_length w.pending (omega arith), nil_from_length w.epochs (omega arith))
idle_threads (w ∷ ws) h (suc t) = idle_threads ws (omega arith) t

-- With nothing outstanding, open, owed or waiting, what performed is consistent.
shown_at_close : {R : Rule} {ops : Ops} {prog : ℕ → List Operation} {start : ℕ → ℕ} (ws : List Thread) {homes : List Home} {ends : ℕ} → busy_threads ws ≡ 0 → WatchHolds R ops prog start ws homes [] [] ends → Shown R prog ops start
shown_at_close {R} {ops} {prog} {start} ws h i = record {
  consistent = all_consistent R ops start i.judged (λ t. (get_or ws t idle).clock) (λ t. (get_or ws t idle).commits) prog outstanding sources times epochs i.values.in_order;
  places = places_kept R ops start i.judged (λ t. (get_or ws t idle).clock) (λ t. (get_or ws t idle).commits) prog outstanding sources times epochs i.values.in_order;
  all_performed = performed_once R ops start i.judged (λ t. (get_or ws t idle).clock) (λ t. (get_or ws t idle).commits) prog outstanding sources times epochs i.values.in_order;
  copies = copies_latest R ops start i.judged (λ t. (get_or ws t idle).clock) (λ t. (get_or ws t idle).commits) prog outstanding sources times epochs i.values.in_order;
}
  where
    outstanding : (t : ℕ) → Outstanding R ops t [] (get_or ws t idle).commits (prog t)
    outstanding t = subst (λ p. Outstanding R ops t p (get_or ws t idle).commits (prog t)) (idle_threads ws h t).0 (i.each_thread t).outstanding

    sources : (t : ℕ) → Sources ops t []
    sources t = subst (λ p. Sources ops t p) (idle_threads ws h t).0 (i.each_thread t).sources

    times : (t : ℕ) → Times ops t (get_or ws t idle).clock
    times t = (i.each_thread t).times

    epochs : (t : ℕ) → Epochs ops t (get_or ws t idle).clock (λ _. None) (λ X. Mem X i.judged)
    epochs t = same_past_keeps_epochs ops {Past = Past i.judged [] []} {Past' = λ X. Mem X i.judged} (λ X m _. inl m) (λ X m. ⊎_elim (λ k. k) (⊎_elim (λ k. absurd k) (λ k. absurd k)) m)
        (subst (λ es. Epochs ops t (get_or ws t idle).clock (λ p. find (λ e. eqb e.place p) es) (Past i.judged [] [])) (idle_threads ws h t).1 (i.each_thread t).epochs)

-- A running watch meets a call.
module _ (R : Rule) (tr : Trace) (s : State) (holds : StateHolds R (performs tr) (λ t. program t tr) (starting tr) s) where
  -- The state, known to be running.
  abbrev now : State
  now = put_verdict s Running

  abbrev Meets : Call → Type 0
  Meets c = (x : Option Refusal) → first_of (refusals now c) ≡ x → Next R tr c (answered (by_rule R) now c x)

  meets_preset : (p v : ℕ) → Meets (preset p v)
  meets_preset p v (Some r) e = holds
  meets_preset p v None e = let a = passes (refusals now (preset p v)) e in preset_keeps s p v (ltb-false last_place p a.0) a.1.0 holds

  meets_commit : (t c p v : ℕ) → Meets (commit t c p v)
  meets_commit t c p v (Some r) e = holds
  meets_commit t c p v None e = let a = passes (refusals now (commit t c p v)) e in commit_keeps s t c p v (leb-false (length s.threads) t a.0) holds

  meets_advance : (t τ : ℕ) → Meets (advance t τ)
  meets_advance t τ (Some r) e = holds
  meets_advance t τ None e =
      let a = passes (refusals now (advance t τ)) e in
      advance_keeps s t τ (leb-false (length s.threads) t a.0) (ltb-false τ (thread_of s t).clock a.1.0) holds

  meets_perform : (t n τ : ℕ) → Meets (perform t n τ)
  meets_perform t n τ (Some r) e = holds
  meets_perform t n τ None e = found (outstanding_as (thread_of s t) n) refl
    where
      a : Passes (refusals now (perform t n τ))
      a = passes (refusals now (perform t n τ)) e

      lawful : (o : Operation) → outstanding_as (thread_of s t) n ≡ Some o → (x : Option Conviction) → perform_laws (by_rule R) (thread_of s t) t o ≡ x → Next R tr (perform t n τ) (performing now t τ o x)
      lawful o f (Some c) q = tt
      lawful o f None q =
          let k = find_some (λ o. eqb o.number n) (thread_of s t).pending o f in
          let known = (holds.each_thread t).outstanding.known o k.0 in
          let facts = perform_facts R (thread_of s t) t o τ k.0 (holds.each_thread t).outstanding.rising q in
          let is : o ≡ get_or (program t tr) n nothing = sym known ∙ ap (λ m. get_or (program t tr) m nothing) (eqb-true o.number n k.1) in
          subst (λ z. StateHolds R (performs tr ++ (done_as t τ (answer_of (thread_of s t) o) z ∷ [])) (λ t. program t tr) (starting tr) (put_thread s t (performed (thread_of s t) o τ))) is
          (perform_keeps s t o τ (leb-false (length s.threads) t a.0) (ltb-false τ (thread_of s t).clock a.1.0) facts holds)

      found : (x : Option Operation) → outstanding_as (thread_of s t) n ≡ x → Next R tr (perform t n τ) (perform_found (by_rule R) now t τ x)
      found None f = absurd (both_ways (not (is_some (outstanding_as (thread_of s t) n))) a.1.1.0 (ap (λ z. not (is_some z)) f))
      found (Some o) f = lawful o f (perform_laws (by_rule R) (thread_of s t) t o) refl

  meets_begin : (t k p v τ : ℕ) → Meets (begin t k p v τ)
  meets_begin t k p v τ (Some r) e = holds
  meets_begin t k p v τ None e =
      begin_keeps s t (opened k p v τ) (leb-false (length s.threads) t a.0) (ltb-false last_place p a.1.1.0) (ltb-false τ (thread_of s t).clock a.1.1.1.0)
      (free (epoch_at (thread_of s t) p) refl a.1.1.1.1.0) refl refl holds
    where
      a : Passes (refusals now (begin t k p v τ))
      a = passes (refusals now (begin t k p v τ)) e

      free : (x : Option Epoch) → epoch_at (thread_of s t) p ≡ x → is_some (epoch_at (thread_of s t) p) ≡ false → epoch_at (thread_of s t) p ≡ None
      free None f h = f
      free (Some d) f h = absurd (both_ways _ h (ap is_some f))

  meets_end : (t p v τ : ℕ) → Meets (end t p v τ)
  meets_end t p v τ (Some r) e = holds
  meets_end t p v τ None e = found (epoch_at (thread_of s t) p) refl
    where
      a : Passes (refusals now (end t p v τ))
      a = passes (refusals now (end t p v τ)) e

      lawful : (d : Epoch) → epoch_at (thread_of s t) p ≡ Some d → (x : Option Conviction) → end_laws t d v τ ≡ x → Next R tr (end t p v τ) (ending now t d v τ x)
      lawful d f (Some c) q = tt
      lawful d f None q =
          let one = first_some_none (law25 t d τ) (law26 t d v ∷ []) q in
          let two = first_some_none (law26 t d v) [] one.1 in
          end_keeps s t p τ d v (leb-false (length s.threads) t a.0) (ltb-false τ (thread_of s t).clock a.1.1.0) f (ltb-true d.used τ (cond_none _ _ one.0))
          (eqb-true v d.copy (cond_none _ _ two.0)) holds

      found : (x : Option Epoch) → epoch_at (thread_of s t) p ≡ x → Next R tr (end t p v τ) (end_found now t v τ x)
      found None f = absurd (both_ways (not (is_some (epoch_at (thread_of s t) p))) a.1.1.1.0 (ap (λ z. not (is_some z)) f))
      found (Some d) f = lawful d f (end_laws t d v τ) refl

  meets_report : (n : ℕ) → Meets (report n)
  meets_report n (Some r) e = holds
  meets_report n None e = found (owed_as s n) refl
    where
      found : (x : Option Ended) → owed_as s n ≡ x → Next R tr (report n) (report_found now n x)
      found None f = holds
      found (Some d) f = report_keeps s n d f holds

  meets_drop : (n : ℕ) → Meets (drop n)
  meets_drop n (Some r) e = holds
  meets_drop n None e = found (owed_as s n)
    where
      found : (x : Option Ended) → Next R tr (drop n) (drop_found now n x)
      found None = holds
      found (Some d) = tt

  meets_settle : Meets settle
  meets_settle (Some r) e = holds
  meets_settle None e = by (judge (λ e. ltb e.from (safe now)) now s.waiting 0) (judging_leaves _ s.waiting now 0).verdict (judging_keeps _ s.waiting now 0 holds)
    where
      by : (j : Judging) → j.state.verdict ≡ Running → StateHolds R (performs tr) (λ t. program t tr) (starting tr) j.state → Next R tr settle (settled j)
      by j v k = go j.fault
        where
          go : (f : Option Conviction) → Next R tr settle (unless_fault f j.state (record { state = j.state; answer = taken j.done }))
          go (Some c) = tt
          go None = subst (λ v. StandsBy v R (record { call = settle; answer = taken j.done } ∷ tr) j.state) (sym v) k

  meets_close : Meets close
  meets_close (Some r) e = holds
  meets_close None e = by (judge (λ e. true) now s.waiting 0) (judging_leaves _ s.waiting now 0) (judging_keeps (λ e. true) s.waiting now 0 holds)
    where
      quiet : busy s ≡ 0
      quiet = eqb-true (busy s) 0 (not-false _ (passes (refusals now close) e).0)

      by : (j : Judging) → Leaves now (λ e. true) j → StateHolds R (performs tr) (λ t. program t tr) (starting tr) j.state → Next R tr close (closed j)
      by j l k = go j.fault refl
        where
          none_owed : j.state.owed ≡ []
          none_owed = l.owed ∙ nil_from_length s.owed (let q = quiet in omega arith)

          none_busy : busy_threads j.state.threads ≡ 0
          none_busy = ap busy_threads l.threads ∙ (let q = quiet in omega arith)

          go : (f : Option Conviction) → j.fault ≡ f → Next R tr close (unless_fault f j.state (record { state = put_verdict j.state Clean; answer = Calls.clean }))
          go (Some c) q = tt
          go None q = shown_at_close j.state.threads none_busy
              (subst (λ o. WatchHolds R (performs tr) (λ t. program t tr) (starting tr) j.state.threads j.state.homes o [] j.state.ends) none_owed
              (subst (λ w. WatchHolds R (performs tr) (λ t. program t tr) (starting tr) j.state.threads j.state.homes j.state.owed w j.state.ends) (l.none_waits (λ _. refl) q) k))

  running_meets : (c : Call) → Next R tr c (step (by_rule R) now c)
  running_meets (preset p v) = meets_preset p v _ refl
  running_meets (commit t c p v) = meets_commit t c p v _ refl
  running_meets (perform t n τ) = meets_perform t n τ _ refl
  running_meets (advance t τ) = meets_advance t τ _ refl
  running_meets (begin t k p v τ) = meets_begin t k p v τ _ refl
  running_meets (end t p v τ) = meets_end t p v τ _ refl
  running_meets (report n) = meets_report n _ refl
  running_meets (drop n) = meets_drop n _ refl
  running_meets settle = meets_settle _ refl
  running_meets close = meets_close _ refl

-- A closed watch performs nothing.
closed_meets : (R : Rule) (tr : Trace) (s : State) → StandsBy Clean R tr s → (c : Call) → Next R tr c (step (by_rule R) (put_verdict s Clean) c)
closed_meets R tr s k (preset p v) = k
closed_meets R tr s k (commit t c p v) = k
closed_meets R tr s k (perform t n τ) = k
closed_meets R tr s k (advance t τ) = k
closed_meets R tr s k (begin t d p v τ) = k
closed_meets R tr s k (end t p v τ) = k
closed_meets R tr s k (report n) = k
closed_meets R tr s k (drop n) = by (first_of (refusals (put_verdict s Clean) (drop n)))
  where
    found : (x : Option Ended) → Next R tr (drop n) (drop_found (put_verdict s Clean) n x)
    found None = k
    found (Some d) = tt

    by : (x : Option Refusal) → Next R tr (drop n) (answered (by_rule R) (put_verdict s Clean) (drop n) x)
    by (Some r) = k
    by None = found (owed_as s n)
closed_meets R tr s k settle = k
closed_meets R tr s k close = k

-- A convicted watch stays convicted.
guilty_meets : (R : Rule) (tr : Trace) (s : State) (g : Conviction) (c : Call) → Next R tr c (step (by_rule R) (put_verdict s (Guilty g)) c)
guilty_meets R tr s g (preset p v) = tt
guilty_meets R tr s g (commit t c p v) = tt
guilty_meets R tr s g (perform t n τ) = tt
guilty_meets R tr s g (advance t τ) = tt
guilty_meets R tr s g (begin t d p v τ) = tt
guilty_meets R tr s g (end t p v τ) = tt
guilty_meets R tr s g (report n) = tt
guilty_meets R tr s g (drop n) = by (first_of (refusals (put_verdict s (Guilty g)) (drop n)))
  where
    found : (x : Option Ended) → Next R tr (drop n) (drop_found (put_verdict s (Guilty g)) n x)
    found None = tt
    found (Some d) = tt

    by : (x : Option Refusal) → Next R tr (drop n) (answered (by_rule R) (put_verdict s (Guilty g)) (drop n) x)
    by (Some r) = tt
    by None = found (owed_as s n)
guilty_meets R tr s g settle = tt
guilty_meets R tr s g close = tt

pub meets : (R : Rule) (tr : Trace) (s : State) (v : Verdict) → StandsBy v R tr s → (c : Call) → Next R tr c (step (by_rule R) (put_verdict s v) c)
meets R tr s Running k c = running_meets R tr s k c
meets R tr s Clean k c = closed_meets R tr s k c
meets R tr s (Guilty g) k c = guilty_meets R tr s g c
