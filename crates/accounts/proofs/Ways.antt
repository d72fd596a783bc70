-- The ways that a call can go. What is to be shown of every call is shown of each way, once: `Ways`. Assumes nothing.
use Rattle.std.proofs.Common.{◌≡◌, ℕ, ◌+◌, Bool, true, ltb, Some, None, Option, refl}
use Rattle.semantics.specs.declared.row.Operation.{Operation}
use Rattle.semantics.specs.declared.row.Epoch.{Epoch}
use Rattle.semantics.specs.declared.row.Ended.{Ended}
use Rattle.semantics.specs.declared.verdict.Conviction.{Conviction}
use Rattle.semantics.specs.declared.verdict.Refusal.{Refusal}
use Rattle.semantics.specs.declared.verdict.Verdict.{Verdict}
use Rattle.semantics.specs.declared.verdict.Verdict.TheVariants.{Running, Clean, Guilty}
use Rattle.semantics.specs.Calls.{Call, preset, commit, perform, advance, begin, end, report, drop, settle, close, taken, refused}
use Rattle.semantics.specs.Calls
use Rattle.semantics.specs.Effect.{Outcome, guilty, performing, perform_found, ending, end_found, report_found, dropping, drop_found, unless_fault, effect}
use Rattle.semantics.specs.Judging.{insert, Judging, judge, safe}
use Rattle.semantics.specs.Laws.{Precedes, perform_laws, end_laws}
use Rattle.semantics.specs.Puts.{put_queues, put_counts, put_verdict, without}
use Rattle.semantics.specs.State.{State, thread_of, outstanding_as, epoch_at, owed_as}
use Rattle.semantics.specs.Step.{step}
use Rattle.accounts.proofs.Steps.{Passes, step_by, checked, not_halted, runs, some_of, none_some}

-- after a report, and after a drop
abbrev pub after_report : State → ℕ → Ended → State
after_report s n e = put_queues s (without n s.owed) (insert e s.waiting)

abbrev pub after_drop : State → ℕ → State
after_drop s n = put_counts (put_queues s (without n s.owed) s.waiting) s.begins s.ends s.judged (s.dropped + 1)

-- a settle judges what begins before the safe time, a close judges all
abbrev pub before_safe : State → Ended → Bool
before_safe s e = ltb e.from (safe s)

abbrev pub every : Ended → Bool
every e = true

abbrev pub settling : State → Judging
settling s = judge (before_safe s) s s.waiting 0

abbrev pub closing : State → Judging
closing s = judge every s s.waiting 0

module _ (B : Precedes) (s : State) (P : Outcome → Type 0) where
  perform_by : (t n τ : ℕ) → Passes s (perform t n τ) → ((c : Conviction) → P (guilty s c))
      → ((o : Operation) → outstanding_as (thread_of s t) n ≡ Some o → perform_laws B (thread_of s t) t o ≡ None → P (performing s t τ o None))
      → P (effect B s (perform t n τ))
  perform_by t n τ f caught go = found (outstanding_as (thread_of s t) n) refl
    where
      lawful : (o : Operation) → outstanding_as (thread_of s t) n ≡ Some o → (l : Option Conviction) → perform_laws B (thread_of s t) t o ≡ l → P (performing s t τ o l)
      lawful o e None h = go o e h
      lawful o e (Some c) h = caught c

      found : (x : Option Operation) → outstanding_as (thread_of s t) n ≡ x → P (perform_found B s t τ x)
      found None e = let k = some_of _ (checked s (perform t n τ) f).1.1.0 in none_some _ k.0 e k.1
      found (Some o) e = lawful o e (perform_laws B (thread_of s t) t o) refl

  end_by : (t p v τ : ℕ) → Passes s (end t p v τ) → ((c : Conviction) → P (guilty s c))
      → ((e : Epoch) → epoch_at (thread_of s t) p ≡ Some e → end_laws t e v τ ≡ None → P (ending s t e v τ None))
      → P (effect B s (end t p v τ))
  end_by t p v τ f caught go = found (epoch_at (thread_of s t) p) refl
    where
      lawful : (e : Epoch) → epoch_at (thread_of s t) p ≡ Some e → (l : Option Conviction) → end_laws t e v τ ≡ l → P (ending s t e v τ l)
      lawful e q None h = go e q h
      lawful e q (Some c) h = caught c

      found : (x : Option Epoch) → epoch_at (thread_of s t) p ≡ x → P (end_found s t v τ x)
      found None q = let k = some_of _ (checked s (end t p v τ) f).1.1.1.0 in none_some _ k.0 q k.1
      found (Some e) q = lawful e q (end_laws t e v τ) refl

  report_by : (n : ℕ) → Passes s (report n) → ((e : Ended) → owed_as s n ≡ Some e → P (record { state = after_report s n e; answer = taken 0 })) → P (effect B s (report n))
  report_by n f go = found (owed_as s n) refl
    where
      found : (x : Option Ended) → owed_as s n ≡ x → P (report_found s n x)
      found None q = let k = some_of _ (checked s (report n) f).0 in none_some _ k.0 q k.1
      found (Some e) q = go e q

  drop_by : (n : ℕ) → Passes s (drop n)
      → ((e : Ended) → owed_as s n ≡ Some e → (c : Conviction) → P (guilty (after_drop s n) c))
      → ((e : Ended) → owed_as s n ≡ Some e → (c : Conviction) → s.verdict ≡ Guilty c → P (record { state = after_drop s n; answer = taken 0 }))
      → P (effect B s (drop n))
  drop_by n f first later = found (owed_as s n) refl
    where
      by : (e : Ended) → owed_as s n ≡ Some e → (c : Conviction) (v : Verdict) → s.verdict ≡ v → P (dropping v (after_drop s n) c)
      by e q c Running h = first e q c
      by e q c Clean h = first e q c
      by e q c (Guilty g) h = later e q g h

      found : (x : Option Ended) → owed_as s n ≡ x → P (drop_found s n x)
      found None q = let k = some_of _ (checked s (drop n) f).0 in none_some _ k.0 q k.1
      found (Some e) q = by e q _ s.verdict refl

  fault_by : (j : Judging) (o : Outcome) → (j.fault ≡ None → P o) → ((c : Conviction) → j.fault ≡ Some c → P (guilty j.state c)) → P (unless_fault j.fault j.state o)
  fault_by j o good bad = by j.fault refl
    where
      by : (f : Option Conviction) → j.fault ≡ f → P (unless_fault f j.state o)
      by None e = good e
      by (Some c) e = bad c e

-- what is to be shown of each way
pub record Ways (B : Precedes) (s : State) (P : Call → Outcome → Type 0) : Type 0 where
  pub refuses : (c : Call) (r : Refusal) → P c (record { state = s; answer = refused r })
  pub presets : (p v : ℕ) → Passes s (preset p v) → P (preset p v) (effect B s (preset p v))
  pub commits : (t c p v : ℕ) → Passes s (commit t c p v) → P (commit t c p v) (effect B s (commit t c p v))
  pub advances : (t τ : ℕ) → Passes s (advance t τ) → P (advance t τ) (effect B s (advance t τ))
  pub begins : (t k p v τ : ℕ) → Passes s (begin t k p v τ) → P (begin t k p v τ) (effect B s (begin t k p v τ))
  pub performs : (t n τ : ℕ) → Passes s (perform t n τ) → (o : Operation) → outstanding_as (thread_of s t) n ≡ Some o → perform_laws B (thread_of s t) t o ≡ None → P (perform t n τ) (performing s t τ o None)
  pub perform_breaks : (t n τ : ℕ) (c : Conviction) → P (perform t n τ) (guilty s c)
  pub ends : (t p v τ : ℕ) → Passes s (end t p v τ) → (e : Epoch) → epoch_at (thread_of s t) p ≡ Some e → end_laws t e v τ ≡ None → P (end t p v τ) (ending s t e v τ None)
  pub end_breaks : (t p v τ : ℕ) (c : Conviction) → P (end t p v τ) (guilty s c)
  pub reports : (n : ℕ) (e : Ended) → owed_as s n ≡ Some e → P (report n) (record { state = after_report s n e; answer = taken 0 })
  pub drop_breaks : (n : ℕ) (e : Ended) → owed_as s n ≡ Some e → (c : Conviction) → P (drop n) (guilty (after_drop s n) c)
  pub drops_later : (n : ℕ) (e : Ended) → owed_as s n ≡ Some e → (c : Conviction) → s.verdict ≡ Guilty c → P (drop n) (record { state = after_drop s n; answer = taken 0 })
  pub settles : s.verdict ≡ Running → (settling s).fault ≡ None → P settle (record { state = (settling s).state; answer = taken (settling s).done })
  pub settle_breaks : s.verdict ≡ Running → (c : Conviction) → (settling s).fault ≡ Some c → P settle (guilty (settling s).state c)
  pub closes : s.verdict ≡ Running → (closing s).fault ≡ None → P close (record { state = put_verdict (closing s).state Clean; answer = Calls.clean })
  pub close_breaks : s.verdict ≡ Running → (c : Conviction) → (closing s).fault ≡ Some c → P close (guilty (closing s).state c)

pub by_ways : (B : Precedes) (s : State) (P : Call → Outcome → Type 0) → Ways B s P → (c : Call) → P c (step B s c)
by_ways B s P w c = step_by B s c (P c) (w.refuses c) (go c)
  where
    go : (c : Call) → Passes s c → P c (effect B s c)
    go (preset p v) f = w.presets p v f
    go (commit t c p v) f = w.commits t c p v f
    go (advance t τ) f = w.advances t τ f
    go (begin t k p v τ) f = w.begins t k p v τ f
    go (perform t n τ) f = perform_by B s (P (perform t n τ)) t n τ f (w.perform_breaks t n τ) (w.performs t n τ f)
    go (end t p v τ) f = end_by B s (P (end t p v τ)) t p v τ f (w.end_breaks t p v τ) (w.ends t p v τ f)
    go (report n) f = report_by B s (P (report n)) n f (w.reports n)
    go (drop n) f = drop_by B s (P (drop n)) n f (w.drop_breaks n) (w.drops_later n)
    go settle f = let r = runs s (not_halted s settle f) in fault_by B s (P settle) (settling s) _ (w.settles r) (w.settle_breaks r)
    go close f = let r = runs s (not_halted s close f) in fault_by B s (P close) (closing s) _ (w.closes r) (w.close_breaks r)
