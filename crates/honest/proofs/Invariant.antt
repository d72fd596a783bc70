-- The invariant of a watch that has met the front of a record, and how a change of one thread keeps it. Assumes nothing.
use Rattle.std.proofs.Common.{◌≡◌, ℕ, ◌<◌, Bool, true, false, cond, eqb, ◌⊎◌, List, [], ◌∷◌, ◌++◌, length, get_or, set, Some, None, Option, sym, refl, ap, ◌∙◌, subst, inl, inr, arith, length-set, map}
use Rattle.std.proofs.lemmas.Bool.{eqb-true, eqb-false, eq-eqb, ne_eqb, cases_eq}
use Rattle.std.proofs.lemmas.List.{get_or-set_same, get_or-set_other}
use mathlib.Core.Path.{fun_ext}
use Rattle.semantics.specs.declared.row.Ended.{Ended}
use Rattle.semantics.specs.declared.verdict.Refusal.{Refusal}
use Rattle.semantics.specs.declared.verdict.Verdict.TheVariants.{Running}
use Rattle.semantics.specs.Calls.{Call, taken}
use Rattle.semantics.specs.Effect.{effect}
use Rattle.semantics.specs.Laws.{Precedes}
use Rattle.semantics.specs.Limits.{places}
use Rattle.semantics.specs.Lists.{first_of}
use Rattle.semantics.specs.Puts.{put_thread}
use Rattle.semantics.specs.Refusals.{Test, stopped_by, stopped, checks, halted, refusals}
use Rattle.semantics.specs.State.{State, Thread, idle, thread_of, home_of}
use Rattle.semantics.specs.Step.{answered, step}
use Rattle.honest.specs.Limits.{ThreadUse, Use, after}
use Rattle.honest.specs.Limits
use Rattle.honest.specs.Machine.{put}
use Rattle.honest.specs.Record.{own_steps}
use Rattle.honest.proofs.Accepts.{Accepts}
use Rattle.honest.proofs.Judgeable.{Judgeable}
use Rattle.honest.proofs.JudgesWithoutFault.{Sorted, unnumbered}
use Rattle.honest.proofs.Ends.{EpochStart, start_of, ends_in}
use Rattle.honest.proofs.Lists.{by_test, none≢some}
use Rattle.honest.proofs.Rising.{Rising}
use Rattle.honest.proofs.SafeTime.{notice, use_of, starts}
use Rattle.honest.proofs.SameElements.{Same}

-- The threads, beside what the calls so far leave of them and what is left of the list.
pub record ThreadFacts (B : Precedes) (n : ℕ) (W : ℕ → Thread) (f : ℕ → ThreadUse) (cs : List Call) : Type 0 where
  pub accepts : (t : ℕ) → Accepts B n (W t) (own_steps t cs)
  pub used : (t : ℕ) → f t ≡ use_of (W t)
  pub numbered : (t : ℕ) → Rising (λ o. o.number) 0 (W t).pending (W t).commits

-- A watch that has met the calls so far, beside what they leave and what is left of the list. Its epochs that are not judged are those of `pool`, which may be judged in that order.
pub record Invariant (B : Precedes) (n : ℕ) (s : State) (a : Use) (cs : List Call) : Type 0 where
  pub going : s.verdict ≡ Running
  pub size : length s.threads ≡ n
  pub homes : length s.homes ≡ places
  pub threads : ThreadFacts B n (thread_of s) a.threads cs
  pub begun : a.begun ≡ s.begins
  pub ended : a.ended ≡ s.ends
  pub owed : a.owed ≡ map notice s.owed
  pub rising : Rising (λ e. e.number) 0 s.owed s.ends
  pub waiting : Same a.waiting (map (λ e. e.from) s.waiting)
  pub sorted : Sorted s.waiting
  pub pool : List Ended
  pub same : Same (map unnumbered s.waiting ++ (map unnumbered s.owed ++ ends_in (starts s) cs)) pool
  pub laws : (p : ℕ) → Judgeable p (home_of s p) pool

-- The next call is taken, and the invariant is kept.
pub record Next (B : Precedes) (n : ℕ) (s : State) (a : Use) (c : Call) (cs : List Call) : Type 0 where
  pub number : ℕ
  pub state : State
  pub is : step B s c ≡ record { state = state; answer = taken number }
  pub kept : Invariant B n state (after n a c) cs

-- No test holds.
abbrev pub Off : List Test → Type 0
Off [] = Unit {0}
Off (t ∷ ts) = (t.0 ≡ false) × Off ts

off_none : (ts : List Test) → Off ts → first_of ts ≡ None
off_none [] h = refl
off_none (t ∷ ts) h = ap (λ b. cond b (Some t.1) (first_of ts)) h.0 ∙ off_none ts h.1

none_off : (ts : List Test) → first_of ts ≡ None → Off ts
none_off [] e = tt
none_off (t ∷ ts) e = go t.0 refl (none_off ts)
  where
    go : (b : Bool) → t.0 ≡ b → (first_of ts ≡ None → Off ts) → Off (t ∷ ts)
    go true b r = absurd (none≢some (sym (sym (ap (λ z. cond z (Some t.1) (first_of ts)) b) ∙ e)))
    go false b r = (b, r (sym (ap (λ z. cond z (Some t.1) (first_of ts)) b) ∙ e))

-- A call of a watch that goes on, none of whose tests holds, has its effect.
pub unrefused : (B : Precedes) (s : State) (c : Call) → s.verdict ≡ Running → halted s c ≡ stopped s → Off (checks s c) → step B s c ≡ effect B s c
unrefused B s c v h off = ap (answered B s c) (ap (λ z. first_of (z ++ checks s c)) (h ∙ ap stopped_by v) ∙ off_none (checks s c) off)

-- A call that is taken by a watch that goes on has no test that holds.
not_refused : (B : Precedes) (s : State) (c : Call) (x : Option Refusal) (k : ℕ) → (answered B s c x).answer ≡ taken k → x ≡ None
not_refused B s c None k e = refl
not_refused B s c (Some r) k e = let z : ◌≡◌ {A = ℕ} 0 1 = cc in absurd (omega arith)

pub taken_off : (B : Precedes) (s : State) (c : Call) (k : ℕ) → s.verdict ≡ Running → halted s c ≡ stopped s → (step B s c).answer ≡ taken k → Off (checks s c)
taken_off B s c k v h e = none_off (checks s c) (sym (ap (λ z. first_of (z ++ checks s c)) (h ∙ ap stopped_by v)) ∙ not_refused B s c (first_of (refusals s c)) k e)

-- One thread is changed.
put_holds : {A : Type 0} (P : A → Type 0) (W : ℕ → A) (u : ℕ) (w : A) → ((t : ℕ) → P (W t)) → P w → (t : ℕ) → P (put W u w t)
put_holds P W u w h e t = by_test (λ b. P (cond b w (W t))) (eqb t u) (λ _. e) (λ _. h t)

used_put : (f : ℕ → ThreadUse) (W : ℕ → Thread) (u : ℕ) (x : ThreadUse) (w : Thread) → ((t : ℕ) → f t ≡ use_of (W t)) → x ≡ use_of w → (t : ℕ) → put f u x t ≡ use_of (put W u w t)
used_put f W u x w h e t = by_test (λ b. cond b x (f t) ≡ use_of (cond b w (W t))) (eqb t u) (λ _. e) (λ _. h t)

module _ (B : Precedes) (n : ℕ) (W : ℕ → Thread) (u : ℕ) (c : Call) (cs : List Call) (g : (t : ℕ) → Accepts B n (W t) (cond (eqb u t) (c ∷ own_steps t cs) (own_steps t cs))) where
  pub accepts_here : Accepts B n (W u) (c ∷ own_steps u cs)
  accepts_here = subst (λ b. Accepts B n (W u) (cond b (c ∷ own_steps u cs) (own_steps u cs))) (eq-eqb u u refl) (g u)

  pub accepts_put : (w : Thread) → Accepts B n w (own_steps u cs) → (t : ℕ) → Accepts B n (put W u w t) (own_steps t cs)
  accepts_put w h t = by_test (λ b. Accepts B n (cond b w (W t)) (own_steps t cs)) (eqb t u)
      (λ b. subst (λ z. Accepts B n w (own_steps z cs)) (sym (eqb-true t u b)) h)
      (λ b. subst (λ z. Accepts B n (W t) (cond z (c ∷ own_steps t cs) (own_steps t cs))) (ne_eqb u t (λ e. eqb-false t u b (sym e))) (g t))

thread_put : (s : State) (u : ℕ) (w : Thread) → u < length s.threads → thread_of (put_thread s u w) ≡ put (thread_of s) u w
thread_put s u w l = fun_ext (λ t. go t (cases_eq t u))
  where
    go : (t : ℕ) → (t ≡ u) ⊎ (t ≡ u → ⊥) → get_or (set s.threads u w) t idle ≡ put (thread_of s) u w t
    go t (inl e) = ap (λ z. get_or (set s.threads u w) z idle) e ∙ get_or-set_same s.threads u w idle l ∙ sym (ap (λ b. cond b w (thread_of s t)) (eq-eqb t u e))
    go t (inr m) = get_or-set_other s.threads u t w idle m ∙ sym (ap (λ b. cond b w (thread_of s t)) (ne_eqb t u m))

pub threads_put : (B : Precedes) (n : ℕ) (s : State) (f : ℕ → ThreadUse) (u : ℕ) (x : ThreadUse) (w : Thread) (cs : List Call) → u < length s.threads → ((t : ℕ) → f t ≡ use_of (thread_of s t)) →
    ((t : ℕ) → Rising (λ o. o.number) 0 (thread_of s t).pending (thread_of s t).commits) → ((t : ℕ) → Accepts B n (put (thread_of s) u w t) (own_steps t cs)) → x ≡ use_of w →
    Rising (λ o. o.number) 0 w.pending w.commits → ThreadFacts B n (thread_of (put_thread s u w)) (put f u x) cs
threads_put B n s f u x w cs l us nu ac e r = subst (λ X. ThreadFacts B n X (put f u x) cs) (sym (thread_put s u w l)) (record {
  accepts = ac;
  used = used_put f (thread_of s) u x w us e;
  numbered = put_holds (λ z. Rising (λ o. o.number) 0 z.pending z.commits) (thread_of s) u w nu r;
})

-- The open epochs of the threads.
abbrev pub starts_of : (ℕ → Thread) → ℕ → List EpochStart
starts_of W t = map start_of (W t).epochs

starts_of_put : (W : ℕ → Thread) (u : ℕ) (w : Thread) → starts_of (put W u w) ≡ put (starts_of W) u (map start_of w.epochs)
starts_of_put W u w = fun_ext (λ t. by_test (λ b. map start_of (cond b w (W t)).epochs ≡ cond b (map start_of w.epochs) (map start_of (W t).epochs)) (eqb t u) (λ _. refl) (λ _. refl))

pub starts_put : (s : State) (u : ℕ) (w : Thread) → u < length s.threads → starts (put_thread s u w) ≡ put (starts s) u (map start_of w.epochs)
starts_put s u w l = ap starts_of (thread_put s u w l) ∙ starts_of_put (thread_of s) u w

starts_kept : (s : State) (u : ℕ) (w : Thread) → u < length s.threads → map start_of w.epochs ≡ starts s u → starts (put_thread s u w) ≡ starts s
starts_kept s u w l e = starts_put s u w l ∙ fun_ext (λ t. by_test (λ b. cond b (map start_of w.epochs) (starts s t) ≡ starts s t) (eqb t u) (λ b. e ∙ ap (starts s) (sym (eqb-true t u b))) (λ _. refl))

-- A call that changes one thread alone, and opens and ends nothing.
pub invariant_thread : (B : Precedes) (n : ℕ) (s : State) (a : Use) (c : Call) (cs : List Call) (t : ℕ) (w : Thread) (x : ThreadUse) (i : Invariant B n s a (c ∷ cs)) → t < n →
    ((u : ℕ) → Accepts B n (put (thread_of s) t w u) (own_steps u cs)) → x ≡ use_of w → Rising (λ o. o.number) 0 w.pending w.commits → map start_of w.epochs ≡ starts s t →
    Same (map unnumbered s.waiting ++ (map unnumbered s.owed ++ ends_in (starts s) cs)) i.pool → Invariant B n (put_thread s t w) (Limits.put_thread a t x) cs
invariant_thread B n s a c cs t w x i lt ac us nu le sa =
    let sz = i.size in
    record {
      going = i.going;
      size = length-set s.threads t w ∙ i.size;
      homes = i.homes;
      threads = threads_put B n s a.threads t x w cs (omega arith) i.threads.used i.threads.numbered ac us nu;
      begun = i.begun;
      ended = i.ended;
      owed = i.owed;
      rising = i.rising;
      waiting = i.waiting;
      sorted = i.sorted;
      pool = i.pool;
      same = subst (λ o. Same (map unnumbered s.waiting ++ (map unnumbered s.owed ++ ends_in o cs)) i.pool) (sym (starts_kept s t w (omega arith) le)) sa;
      laws = i.laws;
    }
