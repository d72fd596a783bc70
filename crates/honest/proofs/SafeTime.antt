-- The safe time: what lies below it, and that nothing that is still to be judged begins before it. Assumes nothing.
use Rattle.std.proofs.Common.{◌≡◌, ℕ, zero, suc, ◌<◌, ◌≤◌, min, Bool, true, false, cond, not, ◌&&◌, eqb, ltb, ◌⊎◌, List, [], ◌∷◌, ◌++◌, length, Some, None, Option, sym, refl, ap, ◌∙◌, subst, inl, inr, not-suc-le-zero, arith, map}
use Rattle.std.proofs.lemmas.Bool.{eqb-true, eq-eqb, cases_eq, cases_lt, ltb-true, lt-ltb, and_parts, and_from}
use Rattle.std.proofs.lemmas.List.{get_or_past}
use Rattle.std.specs.List.{flat_map, fold}
use Rattle.semantics.specs.declared.row.Ended.{Ended}
use Rattle.semantics.specs.declared.row.Epoch.{Epoch}
use Rattle.semantics.specs.Calls.{Call, preset, commit, perform, advance, begin, end, report, drop, settle, close}
use Rattle.semantics.specs.Effect.{opened, performed}
use Rattle.semantics.specs.Judging.{times, safe}
use Rattle.semantics.specs.Laws.{Precedes}
use Rattle.semantics.specs.Lists.{least_of}
use Rattle.semantics.specs.State.{State, Thread, idle, thread_of}
use Rattle.honest.specs.Limits.{OpenEpoch, Notice, ThreadUse, Use, below_each, below_threads, before_safe}
use Rattle.honest.specs.Machine.{Every, put}
use Rattle.honest.specs.Record.{own_steps}
use Rattle.honest.proofs.Accepts.{commits_to, enters, leaves, Accepts}
use Rattle.honest.proofs.JudgesWithoutFault.{unnumbered}
use Rattle.honest.proofs.Ends.{EpochStart, start_of, new_start, ended_epochs, start_at, except_at, ends_in}
use Rattle.honest.proofs.Lists.{by_test, every_to, every_append, every_map, every_filter, every_split, every_unmap, every_flat_map, every_unflat_map, every_at, every_from, every_push, every_found}

-- Numbers all of which are above.
least_low : (x m : ℕ) (ys : List ℕ) → x < fold min m ys → (x < m) × Every (λ y. x < y) ys
least_low x m [] h = (h, tt)
least_low x m (y ∷ ys) h = let r = least_low x (min m y) ys h in let a = r.0 in (omega arith, (omega arith, r.1))

least_high : (x m : ℕ) (ys : List ℕ) → x < m → Every (λ y. x < y) ys → x < fold min m ys
least_high x m [] h e = h
least_high x m (y ∷ ys) h e = let a = e.0 in least_high x (min m y) ys (omega arith) e.1

all_low : (x : ℕ) (ys : List ℕ) → x < least_of ys → Every (λ y. x < y) ys
all_low x [] h = tt
all_low x (y ∷ ys) h = least_low x y ys h

all_high : (x : ℕ) (ys : List ℕ) → 0 < length ys → Every (λ y. x < y) ys → x < least_of ys
all_high x [] l h = absurd (not-suc-le-zero l)
all_high x (y ∷ ys) l h = least_high x y ys h.0 h.1

-- The times of one thread.
abbrev clocked : Thread → List ℕ
clocked w = w.clock ∷ map (λ e. e.from) w.epochs

some_times : (ws : List Thread) (ys : List ℕ) → 0 < length ws → 0 < length (flat_map clocked ws ++ ys)
some_times [] ys l = absurd (not-suc-le-zero l)
some_times (w ∷ ws) ys l = omega arith

-- A time below all clocks and all begins of open and owed epochs.
pub record Low (x n : ℕ) (W : ℕ → Thread) (owed : List Ended) : Type 0 where
  pub clock : (t : ℕ) → t < n → x < (W t).clock
  pub opened : (t : ℕ) → t < n → Every (λ e. x < e.from) (W t).epochs
  pub owes : Every (λ e. x < e.from) owed

low_from_safe : (x : ℕ) (s : State) → x < safe s → Low x (length s.threads) (thread_of s) s.owed
low_from_safe x s h =
    let P : ℕ → Type 0 = λ y. x < y in
    let a = every_split P (flat_map clocked s.threads) (map (λ e. e.from) s.owed) (all_low x (times s) h) in
    let c = every_unflat_map P clocked s.threads a.0 in
    record {
      clock = λ t l. (every_at (λ w. Every P (clocked w)) idle s.threads t l c).0;
      opened = λ t l. every_unmap P (λ e. e.from) (thread_of s t).epochs (every_at (λ w. Every P (clocked w)) idle s.threads t l c).1;
      owes = every_unmap P (λ e. e.from) s.owed a.1;
    }

safe_from_low : (x : ℕ) (s : State) → 0 < length s.threads → Low x (length s.threads) (thread_of s) s.owed → x < safe s
safe_from_low x s l h =
    let P : ℕ → Type 0 = λ y. x < y in
    all_high x (times s) (some_times s.threads (map (λ e. e.from) s.owed) l)
    (every_append P (flat_map clocked s.threads) (map (λ e. e.from) s.owed)
    (every_flat_map P clocked s.threads
    (every_from (λ w. Every P (clocked w)) idle s.threads (λ t k. (h.clock t k, every_map P (λ e. e.from) (thread_of s t).epochs (h.opened t k)))))
    (every_map P (λ e. e.from) s.owed h.owes))

-- The same, said on the calls.
each_low : (x : ℕ) (ys : List ℕ) → below_each x ys ≡ true → Every (λ y. x < y) ys
each_low x [] h = tt
each_low x (y ∷ ys) h = let a = and_parts (ltb x y) (below_each x ys) h in (ltb-true x y a.0, each_low x ys a.1)

each_high : (x : ℕ) (ys : List ℕ) → Every (λ y. x < y) ys → below_each x ys ≡ true
each_high x [] h = refl
each_high x (y ∷ ys) h = and_from (ltb x y) (below_each x ys) (lt-ltb x y h.0) (each_high x ys h.1)

abbrev pub open_epoch : Epoch → OpenEpoch
open_epoch e = record { place = e.place; from = e.from }

abbrev pub notice : Ended → Notice
notice e = record { number = e.number; from = e.from }

abbrev pub use_of : Thread → ThreadUse
use_of w = record { clock = w.clock; committed = w.commits; outstanding = length w.pending; opened = map open_epoch w.epochs }

module _ (x : ℕ) (a : Use) (W : ℕ → Thread) (owed : List Ended) (threads : (t : ℕ) → a.threads t ≡ use_of (W t)) (owes : a.owed ≡ map notice owed) where
  clock : (t : ℕ) → (a.threads t).clock ≡ (W t).clock
  clock t = ap (λ z. z.clock) (threads t)

  opens : (t : ℕ) → (a.threads t).opened ≡ map open_epoch (W t).epochs
  opens t = ap (λ z. z.opened) (threads t)

  threads_low : (n : ℕ) → below_threads x n a ≡ true → (t : ℕ) → t < n → (x < (W t).clock) × Every (λ e. x < e.from) (W t).epochs
  threads_low zero h t l = absurd (not-suc-le-zero l)
  threads_low (suc n) h t l =
      let p = and_parts (ltb x (a.threads n).clock) (below_each x (map (λ e. e.from) (a.threads n).opened) && below_threads x n a) h in
      let q = and_parts (below_each x (map (λ e. e.from) (a.threads n).opened)) (below_threads x n a) p.1 in
      go (cases_eq t n) (ltb-true x (a.threads n).clock p.0) (each_low x (map (λ e. e.from) (a.threads n).opened) q.0) (λ m. threads_low n q.1 t m)
    where
      go : (t ≡ n) ⊎ (t ≡ n → ⊥) → x < (a.threads n).clock → Every (λ y. x < y) (map (λ e. e.from) (a.threads n).opened) → (t < n → (x < (W t).clock) × Every (λ e. x < e.from) (W t).epochs) → (x < (W t).clock) × Every (λ e. x < e.from) (W t).epochs
      go (inl e) c o r = (
        subst (λ z. x < z) (clock n ∙ ap (λ u. (W u).clock) (sym e)) c,
        subst (λ u. Every (λ e. x < e.from) (W u).epochs) (sym e)
            (every_unmap (λ s. x < s.from) open_epoch (W n).epochs (subst (λ l. Every (λ s. x < s.from) l) (opens n) (every_unmap (λ y. x < y) (λ e. e.from) (a.threads n).opened o))),
      )
      go (inr m) c o r = r (omega arith)

  threads_high : (n : ℕ) → ((t : ℕ) → t < n → x < (W t).clock) → ((t : ℕ) → t < n → Every (λ e. x < e.from) (W t).epochs) → below_threads x n a ≡ true
  threads_high zero c o = refl
  threads_high (suc n) c o =
      and_from (ltb x (a.threads n).clock) (below_each x (map (λ e. e.from) (a.threads n).opened) && below_threads x n a)
      (lt-ltb x (a.threads n).clock (subst (λ z. x < z) (sym (clock n)) (c n (omega arith))))
      (and_from (below_each x (map (λ e. e.from) (a.threads n).opened)) (below_threads x n a)
      (each_high x (map (λ e. e.from) (a.threads n).opened) (every_map (λ y. x < y) (λ e. e.from) (a.threads n).opened (subst (λ l. Every (λ s. x < s.from) l) (sym (opens n)) (every_map (λ s. x < s.from) open_epoch (W n).epochs (o n (omega arith))))))
      (threads_high n (λ t l. c t (omega arith)) (λ t l. o t (omega arith))))

  low_from_use : (n : ℕ) → before_safe n a x ≡ true → Low x n W owed
  low_from_use n h =
      let p = and_parts (below_threads x n a) (below_each x (map (λ e. e.from) a.owed)) h in
      record {
        clock = λ t l. (threads_low n p.0 t l).0;
        opened = λ t l. (threads_low n p.0 t l).1;
        owes = every_unmap (λ s. x < s.from) notice owed (subst (λ l. Every (λ s. x < s.from) l) owes (every_unmap (λ y. x < y) (λ e. e.from) a.owed (each_low x (map (λ e. e.from) a.owed) p.1)));
      }

  use_from_low : (n : ℕ) → Low x n W owed → before_safe n a x ≡ true
  use_from_low n h =
      and_from (below_threads x n a) (below_each x (map (λ e. e.from) a.owed)) (threads_high n h.clock h.opened)
      (each_high x (map (λ e. e.from) a.owed) (every_map (λ y. x < y) (λ e. e.from) a.owed (subst (λ l. Every (λ s. x < s.from) l) (sym owes) (every_map (λ s. x < s.from) notice owed h.owes))))

bool_same : (a b : Bool) → (a ≡ true → b ≡ true) → (b ≡ true → a ≡ true) → a ≡ b
bool_same true true f g = refl
bool_same true false f g = sym (f refl)
bool_same false true f g = g refl
bool_same false false f g = refl

-- Whether a time is before the safe time is told by the calls.
pub safe_told : (a : Use) (s : State) (n : ℕ) → length s.threads ≡ n → 0 < n → ((t : ℕ) → a.threads t ≡ use_of (thread_of s t)) → a.owed ≡ map notice s.owed →
    (x : ℕ) → before_safe n a x ≡ ltb x (safe s)
safe_told a s n len pos threads owes x = bool_same (before_safe n a x) (ltb x (safe s))
    (λ h. lt-ltb x (safe s) (safe_from_low x s (omega arith) (subst (λ k. Low x k (thread_of s) s.owed) (sym len) (low_from_use x a (thread_of s) s.owed threads owes n h))))
    (λ h. use_from_low x a (thread_of s) s.owed threads owes n (subst (λ k. Low x k (thread_of s) s.owed) len (low_from_safe x s (ltb-true x (safe s) h))))

-- Every begin in these calls is at this time or later.
abbrev Late : ℕ → List Call → Type 0
Late x [] = Unit {0}
Late x (preset p v ∷ cs) = Late x cs
Late x (commit u c p v ∷ cs) = Late x cs
Late x (perform u k τ ∷ cs) = Late x cs
Late x (advance u τ ∷ cs) = Late x cs
Late x (begin u k p v τ ∷ cs) = (x ≤ τ) × Late x cs
Late x (end u p v τ ∷ cs) = Late x cs
Late x (report k ∷ cs) = Late x cs
Late x (drop k ∷ cs) = Late x cs
Late x (settle ∷ cs) = Late x cs
Late x (close ∷ cs) = Late x cs

accepts_late : (B : Precedes) (n x : ℕ) (w : Thread) (cs : List Call) → x ≤ w.clock → Accepts B n w cs → Late x cs
accepts_late B n x w [] l g = tt
accepts_late B n x w (preset p v ∷ cs) l g = absurd g
accepts_late B n x w (commit u c p v ∷ cs) l g = accepts_late B n x (commits_to w c p v) cs l g.3
accepts_late B n x w (perform u k τ ∷ cs) l g = let a = g.1 in accepts_late B n x (performed w g.2.0 τ) cs (omega arith) g.2.3
accepts_late B n x w (advance u τ ∷ cs) l g = absurd g
accepts_late B n x w (begin u k p v τ ∷ cs) l g = let a = g.3 in (omega arith, accepts_late B n x (enters w (opened k p v τ)) cs (omega arith) g.5)
accepts_late B n x w (end u p v τ ∷ cs) l g = let a = g.2 in accepts_late B n x (leaves w g.3.0 τ) cs (omega arith) g.3.4
accepts_late B n x w (report k ∷ cs) l g = absurd g
accepts_late B n x w (drop k ∷ cs) l g = absurd g
accepts_late B n x w (settle ∷ cs) l g = absurd g
accepts_late B n x w (close ∷ cs) l g = absurd g

-- A thread that the watch does not have has no steps.
stranger : (B : Precedes) (n t : ℕ) (w : Thread) (cs : List Call) → n ≤ t → Accepts B n w (own_steps t cs) → own_steps t cs ≡ []
stranger B n t w [] l g = refl
stranger B n t w (preset p v ∷ cs) l g = stranger B n t w cs l g
stranger B n t w (commit u c p v ∷ cs) l g = by_test (λ b. Accepts B n w (cond b (commit u c p v ∷ own_steps t cs) (own_steps t cs)) → cond b (commit u c p v ∷ own_steps t cs) (own_steps t cs) ≡ []) (eqb u t)
    (λ b g. let e = eqb-true u t b in let a = g.0 in absurd (omega arith)) (λ _ g. stranger B n t w cs l g) g
stranger B n t w (perform u k τ ∷ cs) l g = by_test (λ b. Accepts B n w (cond b (perform u k τ ∷ own_steps t cs) (own_steps t cs)) → cond b (perform u k τ ∷ own_steps t cs) (own_steps t cs) ≡ []) (eqb u t)
    (λ b g. let e = eqb-true u t b in let a = g.0 in absurd (omega arith)) (λ _ g. stranger B n t w cs l g) g
stranger B n t w (advance u τ ∷ cs) l g = stranger B n t w cs l g
stranger B n t w (begin u k p v τ ∷ cs) l g = by_test (λ b. Accepts B n w (cond b (begin u k p v τ ∷ own_steps t cs) (own_steps t cs)) → cond b (begin u k p v τ ∷ own_steps t cs) (own_steps t cs) ≡ []) (eqb u t)
    (λ b g. let e = eqb-true u t b in let a = g.0 in absurd (omega arith)) (λ _ g. stranger B n t w cs l g) g
stranger B n t w (end u p v τ ∷ cs) l g = by_test (λ b. Accepts B n w (cond b (end u p v τ ∷ own_steps t cs) (own_steps t cs)) → cond b (end u p v τ ∷ own_steps t cs) (own_steps t cs) ≡ []) (eqb u t)
    (λ b g. let e = eqb-true u t b in let a = g.0 in absurd (omega arith)) (λ _ g. stranger B n t w cs l g) g
stranger B n t w (report k ∷ cs) l g = stranger B n t w cs l g
stranger B n t w (drop k ∷ cs) l g = stranger B n t w cs l g
stranger B n t w (settle ∷ cs) l g = stranger B n t w cs l g
stranger B n t w (close ∷ cs) l g = stranger B n t w cs l g

put_every : (P : EpochStart → Type 0) (o : ℕ → List EpochStart) (u : ℕ) (l : List EpochStart) → ((t : ℕ) → Every P (o t)) → Every P l → (t : ℕ) → Every P (put o u l t)
put_every P o u l h e t = by_test (λ b. Every P (cond b l (o t))) (eqb t u) (λ _. e) (λ _. h t)

-- What ends in these calls begins no earlier than x, if what is open and what is begun in them does.
ends_late : (x : ℕ) (o : ℕ → List EpochStart) (cs : List Call) → ((t : ℕ) → Every (λ l. x ≤ l.from) (o t)) → ((t : ℕ) → Late x (own_steps t cs)) → Every (λ f. x ≤ f.from) (ends_in o cs)
ends_late x o [] h l = tt
ends_late x o (preset p v ∷ cs) h l = ends_late x o cs h l
ends_late x o (commit u c p v ∷ cs) h l = ends_late x o cs h (λ t. by_test (λ b. Late x (cond b (commit u c p v ∷ own_steps t cs) (own_steps t cs)) → Late x (own_steps t cs)) (eqb u t) (λ _ z. z) (λ _ z. z) (l t))
ends_late x o (perform u k τ ∷ cs) h l = ends_late x o cs h (λ t. by_test (λ b. Late x (cond b (perform u k τ ∷ own_steps t cs) (own_steps t cs)) → Late x (own_steps t cs)) (eqb u t) (λ _ z. z) (λ _ z. z) (l t))
ends_late x o (advance u τ ∷ cs) h l = ends_late x o cs h l
ends_late x o (begin u k p v τ ∷ cs) h l =
    let here : (x ≤ τ) × Late x (own_steps u cs) = subst (λ b. Late x (cond b (begin u k p v τ ∷ own_steps u cs) (own_steps u cs))) (eq-eqb u u refl) (l u) in
    ends_late x (put o u (o u ++ (new_start k p v τ ∷ []))) cs
    (put_every (λ l. x ≤ l.from) o u (o u ++ (new_start k p v τ ∷ [])) h (every_push (λ l. x ≤ l.from) (o u) (new_start k p v τ) (h u) here.0))
    (λ t. by_test (λ b. Late x (cond b (begin u k p v τ ∷ own_steps t cs) (own_steps t cs)) → Late x (own_steps t cs)) (eqb u t) (λ _ z. z.1) (λ _ z. z) (l t))
ends_late x o (end u p v τ ∷ cs) h l =
    let r = ends_late x (put o u (except_at (o u) p)) cs
    (put_every (λ l. x ≤ l.from) o u (except_at (o u) p) h (every_filter (λ l. x ≤ l.from) (λ l. not (eqb l.place p)) (o u) (h u)))
    (λ t. by_test (λ b. Late x (cond b (end u p v τ ∷ own_steps t cs) (own_steps t cs)) → Late x (own_steps t cs)) (eqb u t) (λ _ z. z) (λ _ z. z) (l t)) in
    every_append (λ f. x ≤ f.from) (ended_epochs u (start_at (o u) p) v τ) (ends_in (put o u (except_at (o u) p)) cs) (go (start_at (o u) p) refl) r
  where
    go : (y : Option EpochStart) → start_at (o u) p ≡ y → Every (λ f. x ≤ f.from) (ended_epochs u y v τ)
    go None e = tt
    go (Some y) e = (every_found (λ l. x ≤ l.from) (λ l. eqb l.place p) (o u) y (h u) e, tt)
ends_late x o (report k ∷ cs) h l = ends_late x o cs h l
ends_late x o (drop k ∷ cs) h l = ends_late x o cs h l
ends_late x o (settle ∷ cs) h l = ends_late x o cs h l
ends_late x o (close ∷ cs) h l = ends_late x o cs h l

abbrev pub starts : State → ℕ → List EpochStart
starts s t = map start_of (thread_of s t).epochs

-- What is owed or still to end begins no earlier than a time below the safe time.
pub tail_late : (B : Precedes) (n x : ℕ) (s : State) (cs : List Call) → length s.threads ≡ n → ((t : ℕ) → Accepts B n (thread_of s t) (own_steps t cs)) → x < safe s →
    Every (λ f. x ≤ f.from) (map unnumbered s.owed ++ ends_in (starts s) cs)
tail_late B n x s cs len g h =
    let low = subst (λ k. Low x k (thread_of s) s.owed) len (low_from_safe x s h) in
    every_append (λ f. x ≤ f.from) (map unnumbered s.owed) (ends_in (starts s) cs)
    (every_map (λ f. x ≤ f.from) unnumbered s.owed (every_to (λ e (l : x < e.from). omega arith) s.owed low.owes))
    (ends_late x (starts s) cs (λ t. opens low t (cases_lt t n)) (λ t. lates low t (cases_lt t n)))
  where
    opens : Low x n (thread_of s) s.owed → (t : ℕ) → (t < n) ⊎ (n ≤ t) → Every (λ l. x ≤ l.from) (starts s t)
    opens low t (inl l) = every_map (λ l. x ≤ l.from) start_of (thread_of s t).epochs (every_to (λ e (l : x < e.from). omega arith) (thread_of s t).epochs (low.opened t l))
    opens low t (inr l) = subst (λ w. Every (λ l. x ≤ l.from) (map start_of w.epochs)) (sym (get_or_past s.threads t idle (omega arith))) tt

    lates : Low x n (thread_of s) s.owed → (t : ℕ) → (t < n) ⊎ (n ≤ t) → Late x (own_steps t cs)
    lates low t (inl l) = let c = low.clock t l in accepts_late B n x (thread_of s t) (own_steps t cs) (omega arith) (g t)
    lates low t (inr l) = subst (Late x) (sym (stranger B n t (thread_of s t) cs l (g t))) tt
