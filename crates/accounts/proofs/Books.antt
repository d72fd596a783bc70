-- The rows and counts of a watch are those of the log, whatever the call. Assumes nothing.
use Rattle.std.proofs.Common.{◌≡◌, ℕ, suc, ◌+◌, ◌<◌, ◌≤◌, Bool, true, not, ◌&&◌, eqb, ltb, ◌⊎◌, List, [], ◌∷◌, length, get_or, set, sym, refl, ap, ◌∙◌, subst, inl, inr, arith}
use Rattle.std.proofs.lemmas.Bool.{cases_eq}
use Rattle.std.proofs.lemmas.List.{get_or-set_same, get_or-set_other}
use Rattle.semantics.specs.declared.row.Ended.{Ended}
use Rattle.semantics.specs.declared.verdict.Conviction.{Conviction}
use Rattle.semantics.specs.declared.verdict.Verdict.TheVariants.{Running, Guilty}
use Rattle.semantics.specs.Puts.{put_thread, convict}
use Rattle.semantics.specs.State.{State, Thread, idle, thread_of}
use Rattle.accounts.specs.Accounts.{Account, Open, Owed, Waiting, Judged, Dropped, Entry, Log, same, sooner}
use Rattle.accounts.specs.Lists.{count, one_if, All, InOrder}
use Rattle.accounts.specs.Rows.{open_row}
use Rattle.accounts.proofs.Counting.{one_le, all_map}
use Rattle.accounts.proofs.Judging.{Waits}
use Rattle.accounts.proofs.Moving.{tally, tallies}
use Rattle.accounts.proofs.NeverFalls.{Kept}
use Rattle.accounts.proofs.Safe.{LowerIn}

abbrev pub any : Ended → Bool
any r = true

abbrev pub ended_any : Account → Bool
ended_any a = not (same Open a)

pub record Books (s : State) (l : Log) : Type 0 where
  pub opens : (t : ℕ) (p : Ended → Bool) → count (λ e. p (open_row t e)) (thread_of s t).epochs ≡ tally Open (λ r. eqb r.thread t && p r) l.epochs
  pub owed : (p : Ended → Bool) → count p s.owed ≡ tally Owed p l.epochs
  pub waiting : Waits s.waiting l.epochs
  pub judgings : (p : Ended → Bool) → count p l.judgings ≡ tally Judged p l.epochs
  pub judged : s.judged ≡ tally Judged any l.epochs
  pub dropped : s.dropped ≡ tally Dropped any l.epochs
  pub begins : s.begins ≡ length l.epochs
  pub numbers : (n : ℕ) → tallies ended_any (λ r. eqb r.number n) l.epochs ≡ one_if (ltb n s.ends)
  pub places : (t p : ℕ) → count (λ e. eqb e.place p) (thread_of s t).epochs ≤ 1
  pub queue : InOrder sooner s.waiting
  pub order : InOrder sooner l.judgings
  pub ahead : s.verdict ≡ Running → All (λ j. All (λ w. sooner j w ≡ true) s.waiting) l.judgings
  pub early : s.verdict ≡ Running → All (λ j. LowerIn (suc j.from) s) l.judgings

pub early_kept : (s s' : State) (js : List Ended) → Kept s s' → All (λ j. LowerIn (suc j.from) s) js → All (λ j. LowerIn (suc j.from) s') js
early_kept s s' js k h = all_map js (λ j g. k.lower (suc j.from) g) h

pub guilty_runs : {A : Type 0} (c : Conviction) → Guilty c ≡ Running → A
guilty_runs c e = let z : ◌≡◌ {A = ℕ} 0 1 = cc in absurd (omega arith)

-- a call that touches no account
pub record Quiet (s s' : State) : Type 0 where
  pub opens : (t : ℕ) (p : Ended → Bool) → count (λ e. p (open_row t e)) (thread_of s' t).epochs ≡ count (λ e. p (open_row t e)) (thread_of s t).epochs
  pub owed : s'.owed ≡ s.owed
  pub waiting : s'.waiting ≡ s.waiting
  pub begins : s'.begins ≡ s.begins
  pub ends : s'.ends ≡ s.ends
  pub judged : s'.judged ≡ s.judged
  pub dropped : s'.dropped ≡ s.dropped
  pub runs : s'.verdict ≡ Running → s.verdict ≡ Running

pub quiet : (s s' : State) (l : Log) → Quiet s s' → Kept s s' → Books s l → Books s' l
quiet s s' l q k b = record {
  opens = λ t p. q.opens t p ∙ b.opens t p;
  owed = λ p. ap (count p) q.owed ∙ b.owed p;
  waiting = λ p. ap (count p) q.waiting ∙ b.waiting p;
  judgings = b.judgings;
  judged = q.judged ∙ b.judged;
  dropped = q.dropped ∙ b.dropped;
  begins = q.begins ∙ b.begins;
  numbers = λ n. b.numbers n ∙ ap (λ e. one_if (ltb n e)) (sym q.ends);
  places = λ t p. subst (λ x. x ≤ 1) (sym (q.opens t (λ r. eqb r.place p))) (b.places t p);
  queue = subst (InOrder sooner) (sym q.waiting) b.queue;
  order = b.order;
  ahead = λ r. subst (λ ws. All (λ j. All (λ w. sooner j w ≡ true) ws) l.judgings) (sym q.waiting) (b.ahead (q.runs r));
  early = λ r. early_kept s s' l.judgings k (b.early (q.runs r));
}

pub quiet_convict : (s : State) (c : Conviction) → Quiet s (convict s c)
quiet_convict s c = record { opens = λ t p. refl; owed = refl; waiting = refl; begins = refl; ends = refl; judged = refl; dropped = refl; runs = λ r. guilty_runs c r }

-- a fact of each thread, after one of them was set
pub threads_by : (Q : ℕ → Thread → Type 0) (ws : List Thread) (t : ℕ) (w : Thread) → t < length ws → Q t w → ((u : ℕ) → (u ≡ t → ⊥) → Q u (get_or ws u idle)) → (u : ℕ) → Q u (get_or (set ws t w) u idle)
threads_by Q ws t w l h k u = by (cases_eq u t)
  where
    by : (u ≡ t) ⊎ (u ≡ t → ⊥) → Q u (get_or (set ws t w) u idle)
    by (inl e) = subst (λ x. Q x (get_or (set ws t w) x idle)) (sym e) (subst (Q t) (sym (get_or-set_same ws t w idle l)) h)
    by (inr n) = subst (Q u) (sym (get_or-set_other ws t u w idle n)) (k u n)

pub quiet_thread : (s : State) (t : ℕ) (w : Thread) → t < length s.threads → ((p : Ended → Bool) → count (λ e. p (open_row t e)) w.epochs ≡ count (λ e. p (open_row t e)) (thread_of s t).epochs) → Quiet s (put_thread s t w)
quiet_thread s t w l h = record {
  opens = λ u p. threads_by (λ u x. count (λ e. p (open_row u e)) x.epochs ≡ count (λ e. p (open_row u e)) (thread_of s u).epochs) s.threads t w l (h p) (λ u _. refl) u;
  owed = refl;
  waiting = refl;
  begins = refl;
  ends = refl;
  judged = refl;
  dropped = refl;
  runs = λ r. r;
}

-- the notices of a number
pub once : (s : State) (l : Log) → Books s l → (n : ℕ) → count (λ e. eqb e.number n) s.owed + count (λ e. eqb e.number n) s.waiting ≤ 1
once s l b n =
    let x = b.owed (λ e. eqb e.number n) in
    let y = b.waiting (λ e. eqb e.number n) in
    let z = b.numbers n in
    let u = one_le (ltb n s.ends) in
    let k = two l.epochs in
    omega arith
  where
    each : (a : Account) (x : Bool) → one_if (same Owed a && x) + one_if (same Waiting a && x) ≤ one_if (not (same Open a) && x)
    each Open x = omega arith
    each Owed x = omega arith
    each Waiting x = omega arith
    each Judged x = omega arith
    each Dropped x = omega arith

    two : (es : List Entry) → tally Owed (λ r. eqb r.number n) es + tally Waiting (λ r. eqb r.number n) es ≤ tallies ended_any (λ r. eqb r.number n) es
    two [] = omega arith
    two (e ∷ es) = let i = two es in let h = each e.account (eqb e.row.number n) in omega arith
