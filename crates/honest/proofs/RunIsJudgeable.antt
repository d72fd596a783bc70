-- The epochs of a run, in the order in which the places are given back, break no law of their homes. Assumes nothing.
use Rattle.std.proofs.Common.{◌≡◌, ℕ, ◌≤◌, max, Bool, true, false, cond, ◌&&◌, eqb, ◌⊎◌, List, [], ◌∷◌, ◌++◌, Some, None, Option, sym, refl, ap, ◌∙◌, subst, subst₂, inl, inr, arith}
use Rattle.std.proofs.lemmas.Bool.{eqb-true, eqb-false, eq-eqb, ne_eqb, true≢false, cases_eq, and_parts}
use Rattle.std.proofs.lemmas.Bool.Decides.{nat_tests}
use Rattle.semantics.specs.declared.row.Ended.{Ended}
use Rattle.semantics.specs.declared.row.Home.{Home}
use Rattle.semantics.specs.Calls.{Call, end}
use Rattle.semantics.specs.Classes.{puts}
use Rattle.semantics.specs.Judging.{judged_home}
use Rattle.semantics.specs.Laws.{Precedes}
use Rattle.honest.specs.Machine.{Machine, Hold, put, put_hold, Unwritten, taken_at, used_at, at_time, with_hold, commits, performs_barrier, performs_store, performs_load_early, performs_load, takes_to_read, takes_to_write, gives_back, Run, stays, goes, starting}
use Rattle.honest.proofs.Holds.{put_at, put_other, option_none, put_hold_at, put_hold_far, put_hold_else, Alone, alone_touch, alone_give, alone_read, alone_write}
use Rattle.honest.proofs.Judgeable.{Judgeable, home_write, home_read}
use Rattle.honest.proofs.Ends.{EpochStart, new_start, ended_epoch, ended_epochs, start_at, except_at, ends_in, start_at_push, start_at_push_other, start_at_except}
use Rattle.honest.proofs.Lists.{by_test, none≢some, find_is}

-- A hold of a place beside the epoch there and the home.
abbrev Held : Home → Option Hold → Option EpochStart → Type 0
Held h None None = Unit {0}
Held h None (Some l) = ⊥
Held h (Some k) None = ⊥
Held h (Some k) (Some l) = (l.writes ≡ k.writes) × (l.from ≡ k.since) × (l.start ≡ h.value) × (h.write_end ≤ l.from) × (l.writes ≡ true → h.read_end ≤ l.from)

record Beside (p : ℕ) (m : Machine) (o : ℕ → List EpochStart) (h : Home) : Type 0 where
  read : h.read_end ≤ m.time
  write : h.write_end ≤ m.time
  held : (t : ℕ) → Held h (m.holds t p) (start_at (o t) p)
  quiet : Unwritten m p → m.memory p ≡ h.value

held_some : (h : Home) (x : Option Hold) (y : Option EpochStart) (k : Hold) → Held h x y → x ≡ Some k →
    (l : EpochStart) × (y ≡ Some l) × (l.writes ≡ k.writes) × (l.from ≡ k.since) × (l.start ≡ h.value) × (h.write_end ≤ l.from) × (l.writes ≡ true → h.read_end ≤ l.from)
held_some h None y k a e = absurd (none≢some e)
held_some h (Some x) None k a e = absurd a
held_some h (Some x) (Some l) k a e = (l, refl, cc, cc, a.2, a.3, a.4)

held_none : (h : Home) (x : Option Hold) (y : Option EpochStart) → Held h x y → x ≡ None → y ≡ None
held_none h None None a e = refl
held_none h None (Some l) a e = absurd a
held_none h (Some x) y a e = absurd (none≢some (sym e))

held_same : (h : Home) (k : Hold) (τ : ℕ) (y : Option EpochStart) → Held h (Some k) y → Held h (Some (used_at k τ)) y
held_same h k τ None a = a
held_same h k τ (Some l) a = a

-- A hold is used.
held_used : (h : Home) (f : ℕ → ℕ → Option Hold) (u q τ t p : ℕ) (k : Hold) (y : Option EpochStart) → f u q ≡ Some k → Held h (f t p) y → Held h (put_hold f u q (Some (used_at k τ)) t p) y
held_used h f u q τ t p k y is old =
    by_test (λ b. Held h (cond b (Some (used_at k τ)) (f t p)) y) (eqb p q && eqb t u)
    (λ b. let a = and_parts (eqb p q) (eqb t u) b in
    let pq : p ≡ q = eqb-true p q a.0 in let tu : t ≡ u = eqb-true t u a.1 in
    held_same h k τ y (subst (λ z. Held h z y) (ap (f t) pq ∙ ap (λ z. f z q) tu ∙ is) old))
    (λ b. old)

unwritten_used : (f : ℕ → ℕ → Option Hold) (u q τ p : ℕ) (k : Hold) → f u q ≡ Some k → ((t : ℕ) (i : Hold) → put_hold f u q (Some (used_at k τ)) t p ≡ Some i → i.writes ≡ false) → (t : ℕ) (i : Hold) → f t p ≡ Some i → i.writes ≡ false
unwritten_used f u q τ p k is uw t i e = let a = uw t i in let b = uw t (used_at k τ) in grind (arith, nat_tests)

unwritten_take : (f : ℕ → ℕ → Option Hold) (u q p : ℕ) (x : Option Hold) → f u q ≡ None → ((t : ℕ) (i : Hold) → put_hold f u q x t p ≡ Some i → i.writes ≡ false) → (t : ℕ) (i : Hold) → f t p ≡ Some i → i.writes ≡ false
unwritten_take f u q p x is uw t i e = let a = uw t i in grind (arith, nat_tests)

-- A place is taken.
held_take : (h : Home) (f : ℕ → ℕ → Option Hold) (o : ℕ → List EpochStart) (u q p : ℕ) (k : Hold) (l : EpochStart) → l.place ≡ q → f u q ≡ None → (p ≡ q → Held h (Some k) (Some l)) →
    ((t : ℕ) → Held h (f t p) (start_at (o t) p)) → (t : ℕ) → Held h (put_hold f u q (Some k) t p) (start_at (put o u (o u ++ (l ∷ [])) t) p)
held_take h f o u q p k l lq nh new old t =
    by_test (λ _. Held h (put_hold f u q (Some k) t p) (start_at (put o u (o u ++ (l ∷ [])) t) p)) (eqb t u)
    (λ b. let tu : t ≡ u = eqb-true t u b in
    by_test (λ _. Held h (put_hold f u q (Some k) t p) (start_at (put o u (o u ++ (l ∷ [])) t) p)) (eqb p q)
    (λ c. let pq : p ≡ q = eqb-true p q c in
    let free : start_at (o u) p ≡ None = held_none h (f u p) (start_at (o u) p) (old u) (ap (f u) pq ∙ nh) in
    let is : start_at (o u ++ (l ∷ [])) p ≡ Some l = start_at_push (o u) l p (ap (start_at (o u)) (lq ∙ sym pq) ∙ free) ∙ ap (λ z. cond z (Some l) (start_at (o u) p)) (eq-eqb p l.place (pq ∙ sym lq)) in
    subst₂ (Held h) (sym (ap (λ z. put_hold f u q (Some k) z p) tu ∙ put_hold_at f u q p (Some k) pq)) (sym (ap (λ z. start_at z p) (put_at o u t (o u ++ (l ∷ [])) (sym tu)) ∙ is)) (new pq))
    (λ c. let pq : p ≡ q → ⊥ = eqb-false p q c in
    subst₂ (Held h) (sym (put_hold_far f u q t p (Some k) pq)) (sym (ap (λ z. start_at z p) (put_at o u t (o u ++ (l ∷ [])) (sym tu)) ∙ start_at_push_other (o u) l p (λ e. pq (sym e ∙ lq)) ∙ ap (λ z. start_at (o z) p) (sym tu))) (old t)))
    (λ b. let tu : t ≡ u → ⊥ = eqb-false t u b in
    subst₂ (Held h) (sym (put_hold_else f u q t p (Some k) tu)) (sym (ap (λ z. start_at z p) (put_other o u t (o u ++ (l ∷ [])) tu))) (old t))

-- Another place is given back.
held_give_far : (h : Home) (f : ℕ → ℕ → Option Hold) (o : ℕ → List EpochStart) (u q p : ℕ) → (p ≡ q → ⊥) →
    ((t : ℕ) → Held h (f t p) (start_at (o t) p)) → (t : ℕ) → Held h (put_hold f u q None t p) (start_at (put o u (except_at (o u) q) t) p)
held_give_far h f o u q p pq old t =
    subst₂ (Held h) (sym (put_hold_far f u q t p None pq)) (sym (go (cases_eq t u))) (old t)
  where
    go : (t ≡ u) ⊎ (t ≡ u → ⊥) → start_at (put o u (except_at (o u) q) t) p ≡ start_at (o t) p
    go (inl e) = ap (λ z. start_at z p) (put_at o u t (except_at (o u) q) (sym e)) ∙ start_at_except (o u) q p ∙ ap (λ z. cond z None (start_at (o u) p)) (ne_eqb p q pq) ∙ ap (λ z. start_at (o z) p) (sym e)
    go (inr n) = ap (λ z. start_at z p) (put_other o u t (except_at (o u) q) n)

far_ended : (p q : ℕ) (h : Home) (u v τ : ℕ) (ls : List EpochStart) (us : List Ended) → (p ≡ q → ⊥) → Judgeable p h us → Judgeable p h (ended_epochs u (start_at ls q) v τ ++ us)
far_ended p q h u v τ ls us pq g = go (start_at ls q) refl
  where
    go : (x : Option EpochStart) → start_at ls q ≡ x → Judgeable p h (ended_epochs u x v τ ++ us)
    go None e = g
    go (Some l) e = ((λ lp. absurd (pq (sym lp ∙ eqb-true l.place q (find_is (λ x. eqb x.place q) ls l e)))), λ _. g)

-- This place is given back: who holds it after held it before.
held_give_near : (h g : Home) (f : ℕ → ℕ → Option Hold) (o : ℕ → List EpochStart) (u q p : ℕ) → p ≡ q → ((t : ℕ) → (t ≡ u → ⊥) → Held g (f t p) (start_at (o t) p)) →
    (t : ℕ) → Held g (put_hold f u q None t p) (start_at (put o u (except_at (o u) q) t) p)
held_give_near h g f o u q p pq old t = go (cases_eq t u)
  where
    go : (t ≡ u) ⊎ (t ≡ u → ⊥) → Held g (put_hold f u q None t p) (start_at (put o u (except_at (o u) q) t) p)
    go (inl e) = subst₂ (Held g) (sym (ap (λ z. put_hold f u q None z p) e ∙ put_hold_at f u q p None pq))
        (sym (ap (λ z. start_at z p) (put_at o u t (except_at (o u) q) (sym e)) ∙ start_at_except (o u) q p ∙ ap (λ z. cond z None (start_at (o u) p)) (eq-eqb p q pq))) tt
    go (inr n) = subst₂ (Held g) (sym (put_hold_else f u q t p None n)) (sym (ap (λ z. start_at z p) (put_other o u t (except_at (o u) q) n))) (old t n)

-- The end of a read leaves the other holders as they are, since none of them writes.
held_after_read : (h : Home) (τ : ℕ) (x : Option Hold) (y : Option EpochStart) → ((k : Hold) → x ≡ Some k → k.writes ≡ true → ⊥) → Held h x y →
    Held (record { value = h.value; read_end = max h.read_end τ; write_end = h.write_end; begun = h.begun }) x y
held_after_read h τ None None n a = tt
held_after_read h τ None (Some l) n a = a
held_after_read h τ (Some k) None n a = a
held_after_read h τ (Some k) (Some l) n a = (a.0, a.1, a.2, a.3, λ w. absurd (n k refl (sym a.0 ∙ w)))

held_nobody : (h g : Home) (x : Option Hold) (y : Option EpochStart) → x ≡ None → Held h x y → Held g x y
held_nobody h g None None e a = tt
held_nobody h g None (Some l) e a = a
held_nobody h g (Some k) y e a = absurd (none≢some (sym e))

module _ (p : ℕ) (m : Machine) (o : ℕ → List EpochStart) (h : Home) (u q τ : ℕ) (k : Hold) (l : EpochStart)
    (a : Alone m.holds) (c : Beside p m o h) (pq : p ≡ q) (le : m.time ≤ τ) (is : m.holds u p ≡ Some k) (lk : l.writes ≡ k.writes) where
  abbrev given : Machine
  given = at_time (with_hold m u q None) τ

  abbrev back : ℕ → List EpochStart
  back = put o u (except_at (o u) q)

  abbrev after_write : Home
  after_write = record { value = m.memory q; read_end = h.read_end; write_end = τ; begun = h.begun }

  abbrev after_read : Home
  after_read = record { value = h.value; read_end = max h.read_end τ; write_end = h.write_end; begun = h.begun }

  beside_after_write : l.writes ≡ true → Beside p given back after_write
  beside_after_write w = record {
    read = (let x = c.read in omega arith);
    write = omega arith;
    held = held_give_near h after_write m.holds o u q p pq (λ t n. held_nobody h after_write (m.holds t p) (start_at (o t) p) (option_none (m.holds t p) (λ i e. n (sym (a u t p k i is (sym lk ∙ w) e)))) (c.held t));
    quiet = λ _. ap m.memory pq;
  }

  beside_after_read : l.writes ≡ false → Beside p given back after_read
  beside_after_read w = record {
    read = (let x = c.read in omega arith);
    write = (let x = c.write in omega arith);
    held = held_give_near h after_read m.holds o u q p pq (λ t n. held_after_read h τ (m.holds t p) (start_at (o t) p) (λ i e x. n (a t u p i k e x is)) (c.held t));
    quiet = λ uw. c.quiet (λ t i e. go t i e (uw t i) (cases_eq t u));
  }
    where
      go : (t : ℕ) (i : Hold) → m.holds t p ≡ Some i → (put_hold m.holds u q None t p ≡ Some i → i.writes ≡ false) → (t ≡ u) ⊎ (t ≡ u → ⊥) → i.writes ≡ false
      go t i e uw (inl tu) = let z : m.holds u p ≡ Some i = ap (λ y. m.holds y p) (sym tu) ∙ e in let ik : i ≡ k = cc in ap (λ y. y.writes) ik ∙ sym lk ∙ w
      go t i e uw (inr n) = uw (put_hold_else m.holds u q t p None n ∙ e)

  beside_after : (v : ℕ) → v ≡ m.memory q → Beside p given back (judged_home h (ended_epoch u l v τ))
  beside_after v ve = go l.writes refl
    where
      go : (b : Bool) → l.writes ≡ b → Beside p given back (judged_home h (ended_epoch u l v τ))
      go true w = subst (Beside p given back) (sym (home_write h (ended_epoch u l v τ) w ∙ ap (λ z. record { value = z; read_end = h.read_end; write_end = τ; begun = h.begun }) ve)) (beside_after_write w)
      go false w = subst (Beside p given back) (sym (home_read h (ended_epoch u l v τ) w)) (beside_after_read w)

module _ {B : Precedes} {n : ℕ} where
  judgeable_from : {m m'' : Machine} {cs : List Call} → Run B n m cs m'' → (p : ℕ) (o : ℕ → List EpochStart) (h : Home) → Alone m.holds → Beside p m o h → Judgeable p h (ends_in o cs)
  judgeable_from stays p o h a c = tt
  judgeable_from (goes (commits u k q x lt le pl) run) p o h a c = judgeable_from run p o h a (record { read = c.read; write = c.write; held = c.held; quiet = c.quiet })
  judgeable_from (goes (performs_barrier u τ ea ω la may cl) run) p o h a c = let le = may.time in let x = c.read in let y = c.write in
      judgeable_from run p o h a (record { read = omega arith; write = omega arith; held = c.held; quiet = c.quiet })
  judgeable_from {m} (goes (performs_store u τ ea ω la k may cl cr is wr) run) p o h a c = let le = may.time in let x = c.read in let y = c.write in
      judgeable_from run p o h (alone_touch m.holds u ω.place τ k is a) (record {
        read = omega arith;
        write = omega arith;
        held = λ t. held_used h m.holds u ω.place τ t p k (start_at (o t) p) is (c.held t);
        quiet = λ uw. by_test (λ b. cond b (puts ω) (m.memory p) ≡ h.value) (eqb p ω.place)
            (λ b. absurd (true≢false (sym wr ∙ uw u (used_at k τ) (put_hold_at m.holds u ω.place p (Some (used_at k τ)) (eqb-true p ω.place b)))))
            (λ b. c.quiet (unwritten_used m.holds u ω.place τ p k is uw));
      })
  judgeable_from (goes (performs_load_early u τ ea ω la s may cl ls vl) run) p o h a c = let le = may.time in let x = c.read in let y = c.write in
      judgeable_from run p o h a (record { read = omega arith; write = omega arith; held = c.held; quiet = c.quiet })
  judgeable_from {m} (goes (performs_load u τ ea ω la k may cl ls is vl) run) p o h a c = let le = may.time in let x = c.read in let y = c.write in
      judgeable_from run p o h (alone_touch m.holds u ω.place τ k is a) (record {
        read = omega arith;
        write = omega arith;
        held = λ t. held_used h m.holds u ω.place τ t p k (start_at (o t) p) is (c.held t);
        quiet = λ uw. c.quiet (unwritten_used m.holds u ω.place τ p k is uw);
      })
  judgeable_from {m} (goes (takes_to_read u q τ at pl nh un) run) p o h a c = let le = at.time in let x = c.read in let y = c.write in
      judgeable_from run p (put o u (o u ++ (new_start 0 q (m.memory q) τ ∷ []))) h (alone_read m.holds u q τ un a) (record {
        read = omega arith;
        write = omega arith;
        held = held_take h m.holds o u q p (taken_at false τ) (new_start 0 q (m.memory q) τ) refl nh
            (λ pq. (refl, refl, ap m.memory (sym pq) ∙ c.quiet (λ t i e. un t i (ap (m.holds t) (sym pq) ∙ e)), omega arith, λ w. absurd (true≢false (sym w)))) c.held;
        quiet = λ uw. c.quiet (unwritten_take m.holds u q p _ nh uw);
      })
  judgeable_from {m} (goes (takes_to_write u q τ at pl fr) run) p o h a c = let le = at.time in let x = c.read in let y = c.write in
      judgeable_from run p (put o u (o u ++ (new_start 1 q (m.memory q) τ ∷ []))) h (alone_write m.holds u q τ fr a) (record {
        read = omega arith;
        write = omega arith;
        held = held_take h m.holds o u q p (taken_at true τ) (new_start 1 q (m.memory q) τ) refl (fr u)
            (λ pq. (refl, refl, ap m.memory (sym pq) ∙ c.quiet (λ t i e. absurd (none≢some (sym (fr t) ∙ ap (m.holds t) (sym pq) ∙ e))), omega arith, λ w. omega arith)) c.held;
        quiet = λ uw. c.quiet (unwritten_take m.holds u q p _ (fr u) uw);
      })
  judgeable_from {m} (goes {cs = cs} (gives_back u q τ k td pl is si us) run) p o h a c = let le = td.time in let x = c.read in let y = c.write in
      by_test (λ _. Judgeable p h (ends_in o (end u q (m.memory q) τ ∷ cs))) (eqb p q)
      (λ b. let pq : p ≡ q = eqb-true p q b in
      let hp : m.holds u p ≡ Some k = ap (m.holds u) pq ∙ is in
      let at = held_some h (m.holds u p) (start_at (o u) p) k (c.held u) hp in
      let l = at.0 in
      let lp : l.place ≡ p = eqb-true l.place p (find_is (λ z. eqb z.place p) (o u) l at.1) in
      let fr = at.3 in
      subst (λ z. Judgeable p h (ended_epochs u z (m.memory q) τ ++ ends_in (put o u (except_at (o u) q)) cs)) (sym (ap (start_at (o u)) (sym pq) ∙ at.1)) (
        (λ _. (
          record { inside = omega arith; span = omega arith; start = at.4; write = at.5; read = at.6 },
          judgeable_from run p (put o u (except_at (o u) q)) (judged_home h (ended_epoch u l (m.memory q) τ)) (alone_give m.holds u q a)
              (beside_after p m o h u q τ k l a c pq le hp at.2 (m.memory q) refl),
        )),
        λ n. absurd (n lp),
      ))
      (λ b. let pq : p ≡ q → ⊥ = eqb-false p q b in
      far_ended p q h u (m.memory q) τ (o u) (ends_in (put o u (except_at (o u) q)) cs) pq
      (judgeable_from run p (put o u (except_at (o u) q)) h (alone_give m.holds u q a) (record {
        read = omega arith;
        write = omega arith;
        held = held_give_far h m.holds o u q p pq c.held;
        quiet = λ uw. c.quiet (λ t i e. uw t i (put_hold_far m.holds u q t p None pq ∙ e));
      })))

  -- From a machine at its start.
  pub judgeable_run : {memory : ℕ → ℕ} {m'' : Machine} {cs : List Call} → Run B n (starting memory) cs m'' → (p : ℕ) (h : Home) → h.value ≡ memory p → h.read_end ≡ 0 → h.write_end ≡ 0 → Judgeable p h (ends_in (λ t. []) cs)
  judgeable_run run p h v r w = judgeable_from run p (λ t. []) h (λ t u q i k e x f. absurd (none≢some e)) (record { read = omega arith; write = omega arith; held = λ t. tt; quiet = λ _. sym v })
