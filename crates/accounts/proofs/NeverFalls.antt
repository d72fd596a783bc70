-- No call lowers the safe time. Assumes nothing.
use Rattle.std.proofs.Common.{◌≡◌, ℕ, ◌+◌, ◌≤◌, Bool, true, false, cond, eqb, ltb, List, length, set, Some, sym, refl, ap, ◌∙◌, subst, ap₂, arith}
use Rattle.std.proofs.lemmas.Bool.{ltb-false, le-ltb, leb-false}
use Rattle.std.proofs.lemmas.List.{length-set, length-replicate}
use Rattle.semantics.specs.declared.row.Operation.{Operation}
use Rattle.semantics.specs.declared.row.Epoch.{Epoch}
use Rattle.semantics.specs.declared.row.Ended.{Ended}
use Rattle.semantics.specs.declared.verdict.Verdict.{Verdict}
use Rattle.semantics.specs.declared.verdict.Verdict.TheVariants.{Clean, Guilty}
use Rattle.semantics.specs.Calls.{Call, commit, perform, advance, begin, end}
use Rattle.semantics.specs.Effect.{Outcome, effect, performed, touch, ended}
use Rattle.semantics.specs.Judging.{judge, safe}
use Rattle.semantics.specs.Laws.{Rule, Precedes, by_rule}
use Rattle.semantics.specs.Lists.{change}
use Rattle.semantics.specs.Puts.{put_verdict, without}
use Rattle.semantics.specs.State.{State, Thread, idle, thread_of, epoch_at}
use Rattle.semantics.specs.Step.{step}
use Rattle.semantics.specs.Trace.{Trace, Follows, new, met}
use Rattle.accounts.specs.Lists.{count, one_if}
use Rattle.accounts.specs.SafeTime.{SafeTimeNeverFalls}
use Rattle.accounts.proofs.Counting.{count_push}
use Rattle.accounts.proofs.Queues.{count_kept, count_change, find_in}
use Rattle.accounts.proofs.Steps.{Passes, checked}
use Rattle.accounts.proofs.Ways.{Ways, by_ways, settling, before_safe, every}
use Rattle.accounts.proofs.Safe.{Lower, LowerIn, lower_safe, safe_greatest, lower_set}
use Rattle.accounts.proofs.Judging.{ran}

-- what bounds the times of s from below does so after
pub record Kept (s s' : State) : Type 0 where
  pub lower : (b : ℕ) → LowerIn b s → LowerIn b s'
  pub long : length s'.threads ≡ length s.threads

lower_owed : (b : ℕ) (ws : List Thread) (os qs : List Ended) → Lower b ws os → count (λ e. ltb e.from b) qs ≡ 0 → Lower b ws qs
lower_owed b ws os qs h k = record { clocks = h.clocks; opens = h.opens; owed = k }

module _ (B : Precedes) (s : State) where
  abbrev Keeps : Outcome → Type 0
  Keeps o = Kept s o.state

  at_commit : (t c p v : ℕ) → Keeps (effect B s (commit t c p v))
  at_commit t c p v = record { lower = λ b h. lower_set b s.threads s.owed t _ h (h.clocks t) (h.opens t); long = length-set s.threads t _ }

  at_advance : (t τ : ℕ) → Passes s (advance t τ) → Keeps (effect B s (advance t τ))
  at_advance t τ f =
      let k = ltb-false τ (thread_of s t).clock (checked s (advance t τ) f).1.0 in
      record { lower = λ b h. lower_set b s.threads s.owed t _ h (λ l. let q = h.clocks t l in omega arith) (h.opens t); long = length-set s.threads t _ }

  at_begin : (t k p v τ : ℕ) → Passes s (begin t k p v τ) → Keeps (effect B s (begin t k p v τ))
  at_begin t k p v τ f = record { lower = low; long = length-set s.threads t _ }
    where
      low : (b : ℕ) → LowerIn b s → LowerIn b (effect B s (begin t k p v τ)).state
      low b h =
          let g = checked s (begin t k p v τ) f in
          let l = leb-false (length s.threads) t g.0 in
          let q = h.clocks t l in
          let c = ltb-false τ (thread_of s t).clock g.1.1.1.0 in
          let z : ltb τ b ≡ false = le-ltb τ b (omega arith) in
          lower_set b s.threads s.owed t _ h (λ _. omega arith)
          (count_push (λ e. ltb e.from b) (thread_of s t).epochs _ ∙ ap₂ ◌+◌ (h.opens t) (ap one_if z))

  at_perform : (t n τ : ℕ) → Passes s (perform t n τ) → (o : Operation) (b : ℕ) → LowerIn b s → Lower b (set s.threads t (performed (thread_of s t) o τ)) s.owed
  at_perform t n τ f o b h =
      let k : w.clock ≤ τ = ltb-false τ w.clock (checked s (perform t n τ) f).1.0 in
      lower_set b s.threads s.owed t (performed w o τ) h (λ l. let q : b ≤ w.clock = h.clocks t l in let g : b ≤ τ = omega arith in g) (epochs_of _)
    where
      w : Thread
      w = thread_of s t

      epochs_of : (c : Bool) → count (λ e. ltb e.from b) (cond c (change (λ e. eqb e.place o.place) (touch τ o) w.epochs) w.epochs) ≡ 0
      epochs_of false = h.opens t
      epochs_of true = count_change (λ e. ltb e.from b) (λ e. eqb e.place o.place) (touch τ o) w.epochs (λ _. refl) ∙ h.opens t

  at_end : (t p v τ : ℕ) → Passes s (end t p v τ) → (e : Epoch) → epoch_at (thread_of s t) p ≡ Some e → (b : ℕ) → LowerIn b s → LowerIn b (ended s t e v τ)
  at_end t p v τ f e q b h =
      let w = thread_of s t in
      let g = checked s (end t p v τ) f in
      let k : w.clock ≤ τ = ltb-false τ w.clock g.1.1.0 in
      let l = leb-false (length s.threads) t g.0 in
      let kept = count_kept (λ x. eqb x.place e.place) (λ x. ltb x.from b) w.epochs in
      let o : count (λ x. ltb x.from b) w.epochs ≡ 0 = h.opens t in
      let c : b ≤ w.clock = h.clocks t l in
      let g : b ≤ τ = omega arith in
      let z : ltb e.from b ≡ false = find_in (λ x. ltb x.from b) (λ x. eqb x.place p) w.epochs e q o in
      lower_owed b _ s.owed _ (lower_set b s.threads s.owed t _ h (λ _. g) (omega arith))
      (count_push (λ x. ltb x.from b) s.owed _ ∙ ap₂ ◌+◌ h.owed (ap one_if z))

  fewer : (n b : ℕ) → LowerIn b s → Lower b s.threads (without n s.owed)
  fewer n b h = lower_owed b s.threads s.owed _ h (let k = count_kept (λ x. eqb x.number n) (λ e. ltb e.from b) s.owed in let o = h.owed in omega arith)

  judging : (due : Ended → Bool) (v : Verdict) → Kept s (put_verdict (judge due s s.waiting 0).state v)
  judging due v =
      let r = ran due s s.waiting 0 in
      record { lower = λ b h. subst (λ x. Lower b x (judge due s s.waiting 0).state.owed) (sym r.threads) (subst (λ x. Lower b s.threads x) (sym r.owed) h); long = ap length r.threads }

  ways : Ways B s (λ _. Keeps)
  ways = record {
    refuses = λ _ _. record { lower = λ b h. h; long = refl };
    presets = λ _ _ _. record { lower = λ b h. h; long = refl };
    commits = λ t c p v _. at_commit t c p v;
    advances = at_advance;
    begins = at_begin;
    performs = λ t n τ f o _ _. record { lower = at_perform t n τ f o; long = length-set s.threads t _ };
    perform_breaks = λ _ _ _ _. record { lower = λ b h. h; long = refl };
    ends = λ t p v τ f e q _. record { lower = at_end t p v τ f e q; long = length-set s.threads t _ };
    end_breaks = λ _ _ _ _ _. record { lower = λ b h. h; long = refl };
    reports = λ n _ _. record { lower = fewer n; long = refl };
    drop_breaks = λ n _ _ _. record { lower = fewer n; long = refl };
    drops_later = λ n _ _ _ _. record { lower = fewer n; long = refl };
    settles = λ _ _. judging (before_safe s) (settling s).state.verdict;
    settle_breaks = λ _ c _. judging (before_safe s) (Guilty c);
    closes = λ _ _. judging every Clean;
    close_breaks = λ _ c _. judging every (Guilty c);
  }

pub kept_step : (B : Precedes) (s : State) (c : Call) → Kept s (step B s c).state
kept_step B s c = by_ways B s (λ _ o. Kept s o.state) (ways B s) c

pub threads_of : (R : Rule) (n : ℕ) {tr : Trace} {s : State} → Follows R n tr s → length s.threads ≡ n
threads_of R n new = length-replicate n idle
threads_of R n (met {s = s} r c) = (kept_step (by_rule R) s c).long ∙ threads_of R n r

pub safe_time_never_falls : SafeTimeNeverFalls
safe_time_never_falls R n tr s c l r =
    let k = kept_step (by_rule R) s c in
    let t = threads_of R n r in
    let g = k.long in
    safe_greatest (safe s) (step (by_rule R) s c).state (omega arith) (k.lower (safe s) (lower_safe s))
