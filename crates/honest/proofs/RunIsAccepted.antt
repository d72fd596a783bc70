-- A thread's steps in a run are calls that its part of a watch accepts. Assumes nothing.
use Rattle.std.proofs.Common.{◌≡◌, ℕ, ◌+◌, ◌≤◌, Bool, true, false, cond, not, ◌&&◌, eqb, ltb, List, [], ◌∷◌, ◌++◌, Some, None, Option, sym, refl, ap, ◌∙◌, subst, arith}
use Rattle.std.proofs.lemmas.Bool.{eqb-true, eqb-false, eq-eqb, ne_eqb}
use Rattle.std.proofs.lemmas.Bool.Decides.{nat_tests}
use Rattle.std.specs.List.{find, filter}
use Rattle.semantics.specs.declared.row.Epoch.{Epoch}
use Rattle.semantics.specs.declared.row.Operation.{Operation}
use Rattle.semantics.specs.Calls.{Call, commit, perform, begin, end}
use Rattle.semantics.specs.Classes.{writes, operation, puts}
use Rattle.semantics.specs.Effect.{opened, performed, touch}
use Rattle.semantics.specs.Laws.{Precedes, earlier, forwarded, perform_laws}
use Rattle.semantics.specs.Lists.{last_of, change}
use Rattle.semantics.specs.State.{Thread, idle, outstanding_as, epoch_at}
use Rattle.honest.specs.Machine.{Machine, Hold, put, put_hold, Unordered, Clear, NoStore, LastStore, taken_at, used_at, Performs, commits, performs_barrier, performs_store, performs_load_early, performs_load, takes_to_read, takes_to_write, gives_back, Run, stays, goes, starting, AtRest}
use Rattle.honest.specs.Record.{own_steps}
use Rattle.honest.proofs.Accepts.{commits_to, enters, leaves, Accepts}
use Rattle.honest.proofs.Holds.{put_at, put_other, option_none, Alone, alone_touch, alone_give, alone_read, alone_write}
use Rattle.honest.proofs.Lists.{by_test, none≢some, find_is, every_to, last_none, last_some}
use Rattle.honest.proofs.PerformLaws.{load_writes_not, no_store_test, store_test, laws_barrier, laws_store, laws_early, laws_load, epochs_barrier, epochs_early, epochs_load, epochs_store}
use Rattle.honest.proofs.Rising.{Rising, rising_push, rising_filter, split_before, split_find, split_without}

-- What a thread's hold of a place has to do with its epoch there, where the memory has the value v.
abbrev Agree : ℕ → Option Hold → Option Epoch → Type 0
Agree v None None = Unit {0}
Agree v None (Some e) = ⊥
Agree v (Some h) None = ⊥
Agree v (Some h) (Some e) = (e.writes ≡ h.writes) × (e.used ≡ h.used) × (e.copy ≡ v)

-- A thread's part of a watch beside the machine.
record View (t : ℕ) (m : Machine) (w : Thread) : Type 0 where
  clock : w.clock ≤ m.time
  commits : w.commits ≡ m.committed t
  pending : w.pending ≡ m.pending t
  numbered : Rising (λ o. o.number) 0 w.pending w.commits
  epochs : (p : ℕ) → Agree (m.memory p) (m.holds t p) (epoch_at w p)

-- Epochs looked up after a change.
at_began : (es : List Epoch) (e : Epoch) (q : ℕ) → find (λ x. eqb x.place e.place) es ≡ None →
    find (λ x. eqb x.place q) (es ++ (e ∷ [])) ≡ cond (eqb q e.place) (Some e) (find (λ x. eqb x.place q) es)
at_began [] e q n = grind (arith, nat_tests)
at_began (x ∷ xs) e q n = let r = at_began xs e q in grind (arith, nat_tests)

at_left : (es : List Epoch) (p q : ℕ) → find (λ x. eqb x.place q) (filter (λ x. not (eqb x.place p)) es) ≡ cond (eqb q p) None (find (λ x. eqb x.place q) es)
at_left [] p q = grind (arith, nat_tests)
at_left (x ∷ xs) p q = let r = at_left xs p q in grind (arith, nat_tests)

at_touched : (es : List Epoch) (τ : ℕ) (o : Operation) (e : Epoch) (q : ℕ) → find (λ x. eqb x.place o.place) es ≡ Some e →
    find (λ x. eqb x.place q) (change (λ x. eqb x.place o.place) (touch τ o) es) ≡ cond (eqb q o.place) (Some (touch τ o e)) (find (λ x. eqb x.place q) es)
at_touched [] τ o e q n = absurd (none≢some n)
at_touched (x ∷ xs) τ o e q n = let r = at_touched xs τ o e q in grind (arith, nat_tests)

no_epochs : (es : List Epoch) → ((p : ℕ) → find (λ x. eqb x.place p) es ≡ None) → es ≡ []
no_epochs [] h = refl
no_epochs (x ∷ xs) h = let e = h x.place in let i = eq-eqb x.place x.place refl in grind arith

-- Agreement after a change.
agree_other : (b c : Bool) (v : ℕ) (x x' : Option Hold) (y : Option Epoch) → c ≡ false → Agree v x y → Agree v (cond (b && c) x' x) y
agree_other true c v x x' y e h = subst (λ z. Agree v (cond z x' x) y) (sym e) h
agree_other false c v x x' y e h = h

agree_own : (b c : Bool) (v : ℕ) (x x' : Option Hold) (y y' : Option Epoch) → c ≡ true → (b ≡ true → Agree v x' y') → (b ≡ false → Agree v x y) → Agree v (cond (b && c) x' x) (cond b y' y)
agree_own true c v x x' y y' e h k = subst (λ z. Agree v (cond z x' x) y') (sym e) (h refl)
agree_own false c v x x' y y' e h k = k refl

agree_stored : (b c : Bool) (v v' : ℕ) (x x' : Option Hold) (y y' : Option Epoch) → c ≡ true → Agree v' x' y' → Agree v x y → Agree (cond b v' v) (cond (b && c) x' x) (cond b y' y)
agree_stored true c v v' x x' y y' e h k = subst (λ z. Agree v' (cond z x' x) y') (sym e) h
agree_stored false c v v' x x' y y' e h k = k

agree_none : (v : ℕ) (x : Option Hold) (y : Option Epoch) → Agree v x y → x ≡ None → y ≡ None
agree_none v None None a e = refl
agree_none v None (Some y) a e = absurd a
agree_none v (Some x) None a e = refl
agree_none v (Some x) (Some y) a e = absurd (none≢some (sym e))

agree_some : (v : ℕ) (x : Option Hold) (y : Option Epoch) (h : Hold) → Agree v x y → x ≡ Some h → (e : Epoch) × (y ≡ Some e) × (e.writes ≡ h.writes) × (e.used ≡ h.used) × (e.copy ≡ v)
agree_some v None y h a e = absurd (none≢some e)
agree_some v (Some x) None h a e = absurd a
agree_some v (Some x) (Some y) h a e = (y, refl, cc, cc, a.2)

agree_any : (v v' : ℕ) (x : Option Hold) (y : Option Epoch) → x ≡ None → Agree v x y → Agree v' x y
agree_any v v' None None e a = tt
agree_any v v' None (Some y) e a = a
agree_any v v' (Some x) y e a = absurd (none≢some (sym e))

-- Another thread stores.
agree_stored_other : (m : Machine) (w : Thread) (t u p v τ : ℕ) (h : Hold) → Alone m.holds → m.holds u p ≡ Some h → h.writes ≡ true → (u ≡ t → ⊥) → (x' : Option Hold) →
    ((q : ℕ) → Agree (m.memory q) (m.holds t q) (epoch_at w q)) → (q : ℕ) → Agree (put m.memory p v q) (put_hold m.holds u p x' t q) (epoch_at w q)
agree_stored_other m w t u p v τ h a is wr ne x' old q =
    agree_other (eqb q p) (eqb t u) (put m.memory p v q) (m.holds t q) x' (epoch_at w q) (ne_eqb t u (λ e. ne (sym e)))
    (by_test (λ b. Agree (cond b v (m.memory q)) (m.holds t q) (epoch_at w q)) (eqb q p)
    (λ b. agree_any (m.memory q) v (m.holds t q) (epoch_at w q)
    (option_none (m.holds t q) (λ k e. ne (a u t p h k is wr (ap (m.holds t) (sym (eqb-true q p b)) ∙ e)))) (old q))
    (λ b. old q))

-- A pending operation of the machine, in the watch.
module _ (w : Thread) (before : List Operation) (o : Operation) (later : List Operation) (pa : w.pending ≡ before ++ (o ∷ later)) (nu : Rising (λ o. o.number) 0 w.pending w.commits) where
  rises : Rising (λ o. o.number) 0 (before ++ (o ∷ later)) w.commits
  rises = subst (λ l. Rising (λ o. o.number) 0 l w.commits) pa nu

  is_earlier : earlier w o.number ≡ before
  is_earlier = ap (filter (λ x. ltb x.number o.number)) pa ∙ split_before (λ o. o.number) 0 before o later w.commits rises

  is_found : outstanding_as w o.number ≡ Some o
  is_found = ap (find (λ x. eqb x.number o.number)) pa ∙ split_find (λ o. o.number) 0 before o later w.commits rises

  is_without : (τ : ℕ) → (performed w o τ).pending ≡ before ++ later
  is_without τ = ap (filter (λ x. not (eqb x.number o.number))) pa ∙ split_without (λ o. o.number) 0 before o later w.commits rises

  still_numbered : (τ : ℕ) → Rising (λ o. o.number) 0 (performed w o τ).pending w.commits
  still_numbered τ = rising_filter (λ o. o.number) (λ x. not (eqb x.number o.number)) 0 w.pending w.commits nu

  none_forwarded : NoStore before o.place → forwarded w o ≡ None
  none_forwarded h = ap (λ l. last_of (filter (λ x. writes x.class && eqb x.place o.place) l)) is_earlier
      ∙ last_none (λ x. writes x.class && eqb x.place o.place) before (every_to (λ x. no_store_test o.place x) before h)

  one_forwarded : (s : Operation) → LastStore before o.place s → forwarded w o ≡ Some s
  one_forwarded s h = ap (λ l. last_of (filter (λ x. writes x.class && eqb x.place o.place) l)) (is_earlier ∙ h.among)
      ∙ last_some (λ x. writes x.class && eqb x.place o.place) h.front s h.back (store_test o.place s h.stores) (every_to (λ x. no_store_test o.place x) h.back h.last)

-- A machine in which thread u has performed, and the view of it: of another thread, and of the thread itself.
abbrev performed_by : Machine → (ℕ → ℕ) → (ℕ → ℕ → Option Hold) → ℕ → ℕ → List Operation → Machine
performed_by m memory holds u τ os = record { memory = memory; committed = m.committed; pending = put m.pending u os; holds = holds; time = τ }

-- A view after a step that leaves what is pending.
view_held : (m : Machine) (t u τ : ℕ) (w w' : Thread) (holds : ℕ → ℕ → Option Hold) → View t m w → m.time ≤ τ → w'.clock ≤ τ → w'.commits ≡ w.commits → w'.pending ≡ w.pending →
    ((q : ℕ) → Agree (m.memory q) (holds t q) (epoch_at w' q)) → View t (record { memory = m.memory; committed = m.committed; pending = m.pending; holds = holds; time = τ }) w'
view_held m t u τ w w' holds v le c cm pe ag = record {
  clock = c;
  commits = cm ∙ v.commits;
  pending = pe ∙ v.pending;
  numbered = subst (λ z. Rising (λ o. o.number) 0 z w'.commits) (sym pe) (subst (Rising (λ o. o.number) 0 w.pending) (sym cm) v.numbered);
  epochs = ag;
}

module _ {B : Precedes} {n : ℕ} where
  module _ (m : Machine) (t u τ : ℕ) (w : Thread) (ea : List Operation) (o : Operation) (la : List Operation) (v : View t m w) (may : Performs B n m u τ ea o la)
      (memory : ℕ → ℕ) (holds : ℕ → ℕ → Option Hold) where
    view_other : (u ≡ t → ⊥) → ((q : ℕ) → Agree (memory q) (holds t q) (epoch_at w q)) → View t (performed_by m memory holds u τ (ea ++ la)) w
    view_other ne ag = let vc = v.clock in let le = may.time in record {
      clock = omega arith;
      commits = v.commits;
      pending = v.pending ∙ sym (put_other m.pending u t (ea ++ la) (λ e. ne (sym e)));
      numbered = v.numbered;
      epochs = ag;
    }

    pending_own : u ≡ t → w.pending ≡ ea ++ (o ∷ la)
    pending_own e = v.pending ∙ ap m.pending (sym e) ∙ may.pending

    view_own : (e : u ≡ t) → ((q : ℕ) → Agree (memory q) (holds t q) (epoch_at (performed w o τ) q)) → View t (performed_by m memory holds u τ (ea ++ la)) (performed w o τ)
    view_own e ag = record {
      clock = omega arith;
      commits = v.commits;
      pending = is_without w ea o la (pending_own e) v.numbered τ ∙ sym (put_at m.pending u t (ea ++ la) e);
      numbered = still_numbered w ea o la (pending_own e) v.numbered τ;
      epochs = ag;
    }

    unordered_own : u ≡ t → Unordered B (earlier w o.number) o
    unordered_own e = subst (λ l. Unordered B l o) (sym (is_earlier w ea o la (pending_own e) v.numbered)) may.unordered

    -- The perform is accepted if it breaks no law.
    accepts_own : (e : u ≡ t) (cs : List Call) → perform_laws B w u o ≡ None → Accepts B n (performed w o τ) cs → Accepts B n w (perform u o.number τ ∷ cs)
    accepts_own e cs l g = let vc = v.clock in let le = may.time in (may.thread, omega arith, (o, is_found w ea o la (pending_own e) v.numbered, l, g))

  accepts_from : {m m'' : Machine} {cs : List Call} → Run B n m cs m'' → (t : ℕ) (w : Thread) → Alone m.holds → View t m w → AtRest m'' → Accepts B n w (own_steps t cs)
  accepts_from {m} stays t w a v r =
      (v.pending ∙ r.done t, no_epochs w.epochs (λ p. agree_none (m.memory p) (m.holds t p) (epoch_at w p) (v.epochs p) (r.free t p)))
  accepts_from {m} (goes {cs = cs} (commits u c p x lt le pl) run) t w a v r =
      by_test (λ b. Accepts B n w (cond b (commit u c p x ∷ own_steps t cs) (own_steps t cs))) (eqb u t)
      (λ b. let e : u ≡ t = eqb-true u t b in (
        lt,
        le,
        pl,
        accepts_from run t (commits_to w c p x) a (record {
          clock = v.clock;
          commits = ap (λ z. z + 1) (v.commits ∙ ap m.committed (sym e)) ∙ sym (put_at m.committed u t _ e);
          pending = (let x1 = v.commits in let x2 = v.pending in let z = put_at m.pending u t (m.pending u ++ (operation (m.committed u) c p x ∷ [])) e in cc);
          numbered = rising_push (λ o. o.number) 0 w.pending w.commits (operation w.commits c p x) refl v.numbered;
          epochs = v.epochs;
        }) r,
      ))
      (λ b. accepts_from run t w a (record {
        clock = v.clock;
        commits = v.commits ∙ sym (put_other m.committed u t _ (λ e. eqb-false u t b (sym e)));
        pending = v.pending ∙ sym (put_other m.pending u t _ (λ e. eqb-false u t b (sym e)));
        numbered = v.numbered;
        epochs = v.epochs;
      }) r)
  accepts_from {m} (goes {cs = cs} (performs_barrier u τ ea o la may c) run) t w a v r =
      by_test (λ b. Accepts B n w (cond b (perform u o.number τ ∷ own_steps t cs) (own_steps t cs))) (eqb u t)
      (λ b. let e : u ≡ t = eqb-true u t b in
      accepts_own m t u τ w ea o la v may m.memory m.holds e (own_steps t cs)
      (laws_barrier B w u o (unordered_own m t u τ w ea o la v may m.memory m.holds e) c)
      (accepts_from run t (performed w o τ) a (view_own m t u τ w ea o la v may m.memory m.holds e
      (λ q. subst (λ l. Agree (m.memory q) (m.holds t q) (find (λ x. eqb x.place q) l)) (sym (epochs_barrier w o τ c)) (v.epochs q))) r))
      (λ b. accepts_from run t w a (view_other m t u τ w ea o la v may m.memory m.holds (eqb-false u t b) v.epochs) r)
  accepts_from {m} (goes {cs = cs} (performs_store u τ ea o la h may c cl is wr) run) t w a v r =
      let memory : ℕ → ℕ = put m.memory o.place (puts o) in
      let holds : ℕ → ℕ → Option Hold = put_hold m.holds u o.place (Some (used_at h τ)) in
      let alone = alone_touch m.holds u o.place τ h is a in
      by_test (λ b. Accepts B n w (cond b (perform u o.number τ ∷ own_steps t cs) (own_steps t cs))) (eqb u t)
      (λ b. let e : u ≡ t = eqb-true u t b in
      let at = agree_some (m.memory o.place) (m.holds t o.place) (epoch_at w o.place) h (v.epochs o.place) (ap (λ z. m.holds z o.place) (sym e) ∙ is) in
      accepts_own m t u τ w ea o la v may memory holds e (own_steps t cs)
      (laws_store B w u o (unordered_own m t u τ w ea o la v may memory holds e) at.0 c
      (subst (λ l. Clear l o) (sym (is_earlier w ea o la (pending_own m t u τ w ea o la v may memory holds e) v.numbered)) cl) at.1 (at.2 ∙ wr))
      (accepts_from run t (performed w o τ) alone (view_own m t u τ w ea o la v may memory holds e
      (λ q. subst (λ l. Agree (memory q) (holds t q) l)
      (sym (ap (find (λ x. eqb x.place q)) (epochs_store w o τ c) ∙ at_touched w.epochs τ o at.0 q at.1))
      (agree_stored (eqb q o.place) (eqb t u) (m.memory q) (puts o) (m.holds t q) (Some (used_at h τ)) (epoch_at w q) (Some (touch τ o at.0)) (eq-eqb t u (sym e))
      (at.2, refl, ap (λ k. cond k (puts o) at.0.copy) c) (v.epochs q)))) r))
      (λ b. accepts_from run t w alone (view_other m t u τ w ea o la v may memory holds (eqb-false u t b)
      (agree_stored_other m w t u o.place (puts o) τ h a is wr (eqb-false u t b) (Some (used_at h τ)) v.epochs)) r)
  accepts_from {m} (goes {cs = cs} (performs_load_early u τ ea o la s may c ls vl) run) t w a v r =
      by_test (λ b. Accepts B n w (cond b (perform u o.number τ ∷ own_steps t cs) (own_steps t cs))) (eqb u t)
      (λ b. let e : u ≡ t = eqb-true u t b in
      let fw : forwarded w o ≡ Some s = one_forwarded w ea o la (pending_own m t u τ w ea o la v may m.memory m.holds e) v.numbered s ls in
      accepts_own m t u τ w ea o la v may m.memory m.holds e (own_steps t cs)
      (laws_early B w u o (unordered_own m t u τ w ea o la v may m.memory m.holds e) s c fw vl)
      (accepts_from run t (performed w o τ) a (view_own m t u τ w ea o la v may m.memory m.holds e
      (λ q. subst (λ l. Agree (m.memory q) (m.holds t q) (find (λ x. eqb x.place q) l)) (sym (epochs_early w o τ s c fw)) (v.epochs q))) r))
      (λ b. accepts_from run t w a (view_other m t u τ w ea o la v may m.memory m.holds (eqb-false u t b) v.epochs) r)
  accepts_from {m} (goes {cs = cs} (performs_load u τ ea o la h may c ns is vl) run) t w a v r =
      let holds : ℕ → ℕ → Option Hold = put_hold m.holds u o.place (Some (used_at h τ)) in
      let alone = alone_touch m.holds u o.place τ h is a in
      by_test (λ b. Accepts B n w (cond b (perform u o.number τ ∷ own_steps t cs) (own_steps t cs))) (eqb u t)
      (λ b. let e : u ≡ t = eqb-true u t b in
      let fw : forwarded w o ≡ None = none_forwarded w ea o la (pending_own m t u τ w ea o la v may m.memory holds e) v.numbered ns in
      let at = agree_some (m.memory o.place) (m.holds t o.place) (epoch_at w o.place) h (v.epochs o.place) (ap (λ z. m.holds z o.place) (sym e) ∙ is) in
      accepts_own m t u τ w ea o la v may m.memory holds e (own_steps t cs)
      (laws_load B w u o (unordered_own m t u τ w ea o la v may m.memory holds e) at.0 c fw at.1 (at.4 ∙ vl))
      (accepts_from run t (performed w o τ) alone (view_own m t u τ w ea o la v may m.memory holds e
      (λ q. subst (λ l. Agree (m.memory q) (holds t q) l)
      (sym (ap (find (λ x. eqb x.place q)) (epochs_load w o τ c fw) ∙ at_touched w.epochs τ o at.0 q at.1))
      (agree_own (eqb q o.place) (eqb t u) (m.memory q) (m.holds t q) (Some (used_at h τ)) (epoch_at w q) (Some (touch τ o at.0)) (eq-eqb t u (sym e))
      (λ b. (at.2, refl, ap (λ k. cond k (puts o) at.0.copy) (load_writes_not o.class c) ∙ at.4 ∙ ap m.memory (sym (eqb-true q o.place b)))) (λ b. v.epochs q)))) r))
      (λ b. accepts_from run t w alone (view_other m t u τ w ea o la v may m.memory holds (eqb-false u t b)
      (λ q. agree_other (eqb q o.place) (eqb t u) (m.memory q) (m.holds t q) (Some (used_at h τ)) (epoch_at w q) (ne_eqb t u (λ e. eqb-false u t b (sym e))) (v.epochs q))) r)
  accepts_from {m} (goes {cs = cs} (takes_to_read u p τ at pl nh uw) run) t w a v r =
      let holds : ℕ → ℕ → Option Hold = put_hold m.holds u p (Some (taken_at false τ)) in
      let vc = v.clock in let le = at.time in
      by_test (λ b. Accepts B n w (cond b (begin u 0 p (m.memory p) τ ∷ own_steps t cs) (own_steps t cs))) (eqb u t)
      (λ b. let e : u ≡ t = eqb-true u t b in
      let free : epoch_at w p ≡ None = agree_none (m.memory p) (m.holds t p) (epoch_at w p) (v.epochs p) (ap (λ z. m.holds z p) (sym e) ∙ nh) in
      let new : Epoch = opened 0 p (m.memory p) τ in (
        at.thread,
        omega arith,
        pl,
        omega arith,
        free,
        accepts_from run t (enters w new) (alone_read m.holds u p τ uw a) (view_held m t u τ w (enters w new) holds v le (omega arith) refl refl
            (λ q. subst (λ l. Agree (m.memory q) (holds t q) l) (sym (at_began w.epochs new q free))
            (agree_own (eqb q p) (eqb t u) (m.memory q) (m.holds t q) (Some (taken_at false τ)) (epoch_at w q) (Some new) (eq-eqb t u (sym e))
            (λ b. (refl, refl, ap m.memory (sym (eqb-true q p b)))) (λ b. v.epochs q)))) r,
      ))
      (λ b. accepts_from run t w (alone_read m.holds u p τ uw a) (view_held m t u τ w w holds v le (omega arith) refl refl
      (λ q. agree_other (eqb q p) (eqb t u) (m.memory q) (m.holds t q) (Some (taken_at false τ)) (epoch_at w q) (ne_eqb t u (λ e. eqb-false u t b (sym e))) (v.epochs q))) r)
  accepts_from {m} (goes {cs = cs} (takes_to_write u p τ at pl fr) run) t w a v r =
      let holds : ℕ → ℕ → Option Hold = put_hold m.holds u p (Some (taken_at true τ)) in
      let vc = v.clock in let le = at.time in
      by_test (λ b. Accepts B n w (cond b (begin u 1 p (m.memory p) τ ∷ own_steps t cs) (own_steps t cs))) (eqb u t)
      (λ b. let e : u ≡ t = eqb-true u t b in
      let free : epoch_at w p ≡ None = agree_none (m.memory p) (m.holds t p) (epoch_at w p) (v.epochs p) (fr t) in
      let new : Epoch = opened 1 p (m.memory p) τ in (
        at.thread,
        omega arith,
        pl,
        omega arith,
        free,
        accepts_from run t (enters w new) (alone_write m.holds u p τ fr a) (view_held m t u τ w (enters w new) holds v le (omega arith) refl refl
            (λ q. subst (λ l. Agree (m.memory q) (holds t q) l) (sym (at_began w.epochs new q free))
            (agree_own (eqb q p) (eqb t u) (m.memory q) (m.holds t q) (Some (taken_at true τ)) (epoch_at w q) (Some new) (eq-eqb t u (sym e))
            (λ b. (refl, refl, ap m.memory (sym (eqb-true q p b)))) (λ b. v.epochs q)))) r,
      ))
      (λ b. accepts_from run t w (alone_write m.holds u p τ fr a) (view_held m t u τ w w holds v le (omega arith) refl refl
      (λ q. agree_other (eqb q p) (eqb t u) (m.memory q) (m.holds t q) (Some (taken_at true τ)) (epoch_at w q) (ne_eqb t u (λ e. eqb-false u t b (sym e))) (v.epochs q))) r)
  accepts_from {m} (goes {cs = cs} (gives_back u p τ h td pl is si us) run) t w a v r =
      let holds : ℕ → ℕ → Option Hold = put_hold m.holds u p None in
      let vc = v.clock in let le = td.time in
      by_test (λ b. Accepts B n w (cond b (end u p (m.memory p) τ ∷ own_steps t cs) (own_steps t cs))) (eqb u t)
      (λ b. let e : u ≡ t = eqb-true u t b in
      let at = agree_some (m.memory p) (m.holds t p) (epoch_at w p) h (v.epochs p) (ap (λ z. m.holds z p) (sym e) ∙ is) in
      let us' = at.3 in
      let ep : at.0.place ≡ p = eqb-true at.0.place p (find_is (λ x. eqb x.place p) w.epochs at.0 at.1) in (
        td.thread,
        pl,
        omega arith,
        (
          at.0,
          at.1,
          omega arith,
          sym at.4,
          accepts_from run t (leaves w at.0 τ) (alone_give m.holds u p a) (view_held m t u τ w (leaves w at.0 τ) holds v le (omega arith) refl refl
              (λ q. subst (λ l. Agree (m.memory q) (holds t q) l)
              (sym (ap (λ z. find (λ x. eqb x.place q) (filter (λ x. not (eqb x.place z)) w.epochs)) ep ∙ at_left w.epochs p q))
              (agree_own (eqb q p) (eqb t u) (m.memory q) (m.holds t q) None (epoch_at w q) None (eq-eqb t u (sym e)) (λ b. tt) (λ b. v.epochs q)))) r,
        ),
      ))
      (λ b. accepts_from run t w (alone_give m.holds u p a) (view_held m t u τ w w holds v le (omega arith) refl refl
      (λ q. agree_other (eqb q p) (eqb t u) (m.memory q) (m.holds t q) None (epoch_at w q) (ne_eqb t u (λ e. eqb-false u t b (sym e))) (v.epochs q))) r)

  -- From a machine at its start.
  pub accepts_run : {memory : ℕ → ℕ} {m'' : Machine} {cs : List Call} → Run B n (starting memory) cs m'' → AtRest m'' → (t : ℕ) → Accepts B n idle (own_steps t cs)
  accepts_run run r t = accepts_from run t idle (λ t u p h k e w f. absurd (none≢some e)) (record { clock = omega arith; commits = refl; pending = refl; numbered = omega arith; epochs = λ p. tt }) r
