-- The waiting stand by begin, and judging them finds no fault. Assumes nothing.
use Rattle.std.proofs.Common.{◌≡◌, ℕ, ◌+◌, ◌<◌, ◌≤◌, Bool, true, false, cond, not, eqb, leb, ◌⊎◌, List, [], ◌∷◌, ◌++◌, length, get_or, set, Some, None, Option, sym, refl, ap, ◌∙◌, subst, inl, inr, arith, length-set, map}
use Rattle.std.proofs.lemmas.Bool.{eqb-true, eqb-false, eq-eqb, ne_eqb, cases_eq, leb-true, leb-false, not_from_false}
use Rattle.std.proofs.lemmas.List.{get_or-set_same, get_or-set_other}
use Rattle.std.specs.List.{filter}
use Rattle.queue.specs.Fields.{in_turn}
use Rattle.semantics.specs.declared.row.Ended.{Ended}
use Rattle.semantics.specs.declared.row.Home.{Home}
use Rattle.semantics.specs.declared.verdict.Conviction.{Conviction}
use Rattle.semantics.specs.Judging.{ended_le, insert, home_laws, judged_home, judged_one, stop_at, go_on, judge}
use Rattle.semantics.specs.Limits.{places}
use Rattle.semantics.specs.Puts.{put_queues}
use Rattle.semantics.specs.State.{State, unused, home_of}
use Rattle.honest.specs.Machine.{Every, put}
use Rattle.honest.proofs.Judgeable.{sound_laws, Judgeable, judge_one, judge_rest}
use Rattle.honest.proofs.Lists.{by_test, every_to, every_append, every_map, every_filter, filter_all}
use Rattle.honest.proofs.SameElements.{Pick, here, there, Same, more, every_pick, every_same}

-- The waiting, by begin.
abbrev pub Sorted : List Ended → Type 0
Sorted [] = Unit {0}
Sorted (e ∷ es) = Every (λ f. e.from ≤ f.from) es × Sorted es

turn_true : (a b : ℕ) (rest : Bool) → in_turn leb a b rest ≡ true → a ≤ b
turn_true a b rest e = by_test (λ x. leb a b ≡ x → cond x (cond (leb b a) rest true) false ≡ true → a ≤ b) (leb a b)
    (λ _ l _. leb-true a b l) (λ _ _ f. let z : ◌≡◌ {A = ℕ} 0 1 = cc in absurd (omega arith)) refl e

turn_false : (a b : ℕ) (rest : Bool) → in_turn leb a b rest ≡ false → b ≤ a
turn_false a b rest e = by_test (λ x. leb b a ≡ x → cond (leb a b) (cond x rest true) false ≡ false → b ≤ a) (leb b a)
    (λ _ l _. leb-true b a l)
    (λ _ l f. let m = leb-false b a l in by_test (λ x. leb a b ≡ x → cond x true false ≡ false → b ≤ a) (leb a b) (λ _ _ z. let y : ◌≡◌ {A = ℕ} 0 1 = cc in absurd (omega arith)) (λ _ k _. let x = leb-false a b k in omega arith) refl f) refl e

le_from : (a b : Ended) → ended_le a b ≡ true → a.from ≤ b.from
le_from a b e = turn_true a.from b.from _ e

not_le_from : (a b : Ended) → ended_le a b ≡ false → b.from ≤ a.from
not_le_from a b e = turn_false a.from b.from _ e

pub pick_insert : (e : Ended) (ws : List Ended) → Pick e (insert e ws) ws
pick_insert e [] = here
pick_insert e (x ∷ xs) = let r = pick_insert e xs in by_test (λ b. Pick e (cond b (e ∷ x ∷ xs) (x ∷ insert e xs)) (x ∷ xs)) (ended_le e x) (λ _. here) (λ _. there r)

pub sorted_insert : (e : Ended) (ws : List Ended) → Sorted ws → Sorted (insert e ws)
sorted_insert e [] s = (tt, tt)
sorted_insert e (x ∷ xs) s = let r = sorted_insert e xs s.1 in
    by_test (λ b. Sorted (cond b (e ∷ x ∷ xs) (x ∷ insert e xs))) (ended_le e x)
    (λ b. let le = le_from e x b in ((le, every_to (λ f (l : x.from ≤ f.from). omega arith) xs s.0), s))
    (λ b. (every_pick (λ f. x.from ≤ f.from) (pick_insert e xs) (not_le_from e x b) s.0, r))

pub sorted_filter : (f : Ended → Bool) (ws : List Ended) → Sorted ws → Sorted (filter f ws)
sorted_filter f [] s = tt
sorted_filter f (x ∷ xs) s = let r = sorted_filter f xs s.1 in
    by_test (λ b. Sorted (cond b (x ∷ filter f xs) (filter f xs))) (f x) (λ _. (every_filter (λ g. x.from ≤ g.from) f xs s.0, r)) (λ _. r)

-- An ended epoch without its notice.
abbrev pub unnumbered : Ended → Ended
unnumbered e = record { number = 0; thread = e.thread; writes = e.writes; place = e.place; from = e.from; until = e.until; start = e.start; last = e.last }

-- A home after a change.
pub home_put : (s : State) (q : ℕ) (h : Home) → q < length s.homes → (p : ℕ) → get_or (set s.homes q h) p unused ≡ put (home_of s) q h p
home_put s q h l p = go (cases_eq p q)
  where
    go : (p ≡ q) ⊎ (p ≡ q → ⊥) → get_or (set s.homes q h) p unused ≡ put (home_of s) q h p
    go (inl e) = ap (λ z. get_or (set s.homes q h) z unused) e ∙ get_or-set_same s.homes q h unused l ∙ sym (ap (λ b. cond b h (home_of s p)) (eq-eqb p q e))
    go (inr n) = get_or-set_other s.homes q p h unused n ∙ sym (ap (λ b. cond b h (home_of s p)) (ne_eqb p q n))

-- Judging that finds no fault: what it leaves.
pub record WithoutFault (due : Ended → Bool) (s : State) (ws : List Ended) (k : ℕ) (tail : List Ended) : Type 0 where
  pub state : State
  pub done : ℕ
  pub is : judge due s ws k ≡ record { state = state; done = done; fault = None }
  pub threads : state.threads ≡ s.threads
  pub owed : state.owed ≡ s.owed
  pub begins : state.begins ≡ s.begins
  pub ends : state.ends ≡ s.ends
  pub verdict : state.verdict ≡ s.verdict
  pub homes : length state.homes ≡ places
  pub waiting : state.waiting ≡ filter (λ e. not (due e)) ws
  pub pool : List Ended
  pub same : Same (map unnumbered state.waiting ++ tail) pool
  pub laws : (p : ℕ) → Judgeable p (home_of state p) pool

judge_due : (due : Ended → Bool) (s : State) (e : Ended) (es : List Ended) (k : ℕ) → due e ≡ true → home_laws (home_of s e.place) e ≡ None → judge due s (e ∷ es) k ≡ judge due (judged_one s e) es (k + 1)
judge_due due s e es k d l =
    ap (λ b. go_on b (home_laws (home_of s e.place) e) (stop_at s (e ∷ es) k) (judge due (judged_one s e) es (k + 1))) d
    ∙ ap (λ x. go_on true x (stop_at s (e ∷ es) k) (judge due (judged_one s e) es (k + 1))) l

judge_left : (due : Ended → Bool) (s : State) (e : Ended) (es : List Ended) (k : ℕ) → due e ≡ false → judge due s (e ∷ es) k ≡ stop_at s (e ∷ es) k None
judge_left due s e es k d = ap (λ b. go_on b (home_laws (home_of s e.place) e) (stop_at s (e ∷ es) k) (judge due (judged_one s e) es (k + 1))) d ∙ stops (home_laws (home_of s e.place) e)
  where
    stops : (x : Option Conviction) → go_on false x (stop_at s (e ∷ es) k) (judge due (judged_one s e) es (k + 1)) ≡ stop_at s (e ∷ es) k None
    stops None = refl
    stops (Some c) = refl

-- The first by begin breaks no law, and the others may be judged after it.
judged_first : (e : Ended) (s : State) {us vs : List Ended} → Pick (unnumbered e) us vs → Every (λ f. e.from ≤ f.from) us → length s.homes ≡ places →
    ((p : ℕ) → Judgeable p (home_of s p) us) → (home_laws (home_of s e.place) e ≡ None) × ((p : ℕ) → Judgeable p (home_of (judged_one s e) p) vs)
judged_first e s {us} {vs} pk first hm g =
    let h = home_of s e.place in
    let j = judge_one e.place (unnumbered e) h pk refl first (g e.place) in
    let js = j.sound in
    let ins = js.inside in (
      sound_laws h e (record { inside = js.inside; span = js.span; start = js.start; write = js.write; read = js.read }),
      λ p. subst (λ z. Judgeable p z vs) (sym (home_put s e.place (judged_home h e) (omega arith) p))
          (by_test (λ b. Judgeable p (cond b (judged_home h e) (home_of s p)) vs) (eqb p e.place)
          (λ b. subst (λ q. Judgeable q (judged_home h e) vs) (sym (eqb-true p e.place b)) j.rest)
          (λ b. judge_rest p (unnumbered e) (home_of s p) pk (λ x. eqb-false p e.place b (sym x)) (g p))),
    )

-- Epochs that wait by begin, none of them after what is to come: each is judged without a fault.
module _ (due : Ended → Bool) (falls : (x y : Ended) → x.from ≤ y.from → due x ≡ false → due y ≡ false)
    (tail : List Ended) (early : (e : Ended) → due e ≡ true → Every (λ f. e.from ≤ f.from) tail) where
  pub judges : (ws : List Ended) (s : State) (k : ℕ) (pool : List Ended) → Sorted ws → Same (map unnumbered ws ++ tail) pool → length s.homes ≡ places → ((p : ℕ) → Judgeable p (home_of s p) pool) → WithoutFault due s ws k tail
  judges [] s k pool so sa hm g = record
      { state = put_queues s s.owed []; done = k; is = refl; threads = refl; owed = refl; begins = refl; ends = refl; verdict = refl; homes = hm; waiting = refl; pool = pool; same = sa; laws = g }
  judges (e ∷ es) s k pool so (more {zs = zs} pk sm) hm g = go (due e) refl (λ s'. judges es s' (k + 1) zs so.1 sm)
    where
      whole : Same (unnumbered e ∷ (map unnumbered es ++ tail)) pool
      whole = more pk sm

      go : (b : Bool) → due e ≡ b → ((s' : State) → length s'.homes ≡ places → ((p : ℕ) → Judgeable p (home_of s' p) zs) → WithoutFault due s' es (k + 1) tail) → WithoutFault due s (e ∷ es) k tail
      go true d ih =
          let first : Every (λ f. e.from ≤ f.from) pool = every_same (λ f. e.from ≤ f.from) whole (omega arith, every_append (λ f. e.from ≤ f.from) (map unnumbered es) tail (every_map (λ f. e.from ≤ f.from) unnumbered es so.0) (early e d)) in
          let one = judged_first e s pk first hm g in
          let r = ih (judged_one s e) (length-set s.homes e.place (judged_home (home_of s e.place) e) ∙ hm) one.1 in
          record {
            state = r.state;
            done = r.done;
            is = judge_due due s e es k d one.0 ∙ r.is;
            threads = r.threads;
            owed = r.owed;
            begins = r.begins;
            ends = r.ends;
            verdict = r.verdict;
            homes = r.homes;
            waiting = r.waiting ∙ sym (ap (λ b. cond (not b) (e ∷ filter (λ e. not (due e)) es) (filter (λ e. not (due e)) es)) d);
            pool = r.pool;
            same = r.same;
            laws = r.laws;
          }
      go false d ih = record {
        state = put_queues s s.owed (e ∷ es);
        done = k;
        is = judge_left due s e es k d;
        threads = refl;
        owed = refl;
        begins = refl;
        ends = refl;
        verdict = refl;
        homes = hm;
        waiting = sym (filter_all (λ x. not (due x)) (e ∷ es) (not_from_false (due e) d, every_to (λ f l. not_from_false (due f) (falls e f l d)) es so.0));
        pool = pool;
        same = whole;
        laws = g;
      }
