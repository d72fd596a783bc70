-- What judging does, in the watch and in the log. Assumes nothing.
use Rattle.std.proofs.Common.{◌≡◌, ℕ, zero, suc, ◌+◌, ◌<◌, ◌≤◌, Bool, true, false, not, ◌&&◌, eqb, ltb, List, [], ◌∷◌, ◌++◌, length, take, drop, Some, None, Option, sym, refl, ap, ◌∙◌, subst, le_of_suc-le-suc, not-suc-le-zero, arith, take-append-drop, map}
use Rattle.std.proofs.lemmas.Bool.{lt-ltb, eq-eqb}
use Rattle.std.proofs.lemmas.List.{append-nil, append_assoc, length-set, length-take-le}
use Rattle.std.specs.List.{filter}
use Rattle.semantics.specs.declared.row.Ended.{Ended}
use Rattle.semantics.specs.declared.verdict.Conviction.{Conviction}
use Rattle.semantics.specs.Judging.{home_laws, judged_one, Judging, stop_at, go_on, judge}
use Rattle.semantics.specs.State.{State, home_of}
use Rattle.accounts.specs.Accounts.{Account, Waiting, Judged, Entry, Log, is, same, stand, alter, sooner, next, judge_next, judge_many, ahead_of}
use Rattle.accounts.specs.Homes.{home_after, Lawful}
use Rattle.accounts.specs.Lists.{one_if, count, there_is, All, InOrder}
use Rattle.accounts.proofs.Counting.{all_map, all_always, all_sorted_cross, count_all, count_append, count_like, count_like_in, count_map, count_none, in_order_right, none_count}
use Rattle.accounts.proofs.Folding.{home_next, law_names, lawful_like, unmarked}
use Rattle.accounts.proofs.Moving.{tally, tallies, length_alter, stay, leave, join, within}
use Rattle.accounts.proofs.Queues.{count_filter, sooner_self, sooner_other}
use Rattle.accounts.proofs.SameRow.{same_row, same_row_refl, same_row_true}

-- the watch judges the first m of the waiting
pub record Ran (due : Ended → Bool) (s : State) (es : List Ended) (k : ℕ) (j : Judging) : Type 0 where
  pub m : ℕ
  pub done : j.done ≡ k + m
  pub fits : m ≤ length es
  pub waiting : j.state.waiting ≡ drop m es
  pub were_due : All (λ e. due e ≡ true) (take m es)
  pub judged : j.state.judged ≡ s.judged + m
  pub threads : j.state.threads ≡ s.threads
  pub owed : j.state.owed ≡ s.owed
  pub begins : j.state.begins ≡ s.begins
  pub ends : j.state.ends ≡ s.ends
  pub dropped : j.state.dropped ≡ s.dropped
  pub homes_long : length j.state.homes ≡ length s.homes
  pub homes : All (λ e. e.place < length s.homes) es → (p : ℕ) → home_of j.state p ≡ home_after p (home_of s p) (take m es)
  pub lawful : All (λ e. e.place < length s.homes) es → Lawful (home_of s) (take m es)
  pub stops : j.fault ≡ None → (e : Ended) (rest : List Ended) → drop m es ≡ e ∷ rest → due e ≡ false
  pub fault : (c : Conviction) → j.fault ≡ Some c → (e : Ended) × (rest : List Ended) × (drop m es ≡ e ∷ rest) × (c.number ≡ e.number)

-- judging stopped before the first
stopped_at : (due : Ended → Bool) (s : State) (es : List Ended) (k : ℕ) (f : Option Conviction)
    → (f ≡ None → (e : Ended) (rest : List Ended) → es ≡ e ∷ rest → due e ≡ false)
    → ((c : Conviction) → f ≡ Some c → (e : Ended) × (rest : List Ended) × (es ≡ e ∷ rest) × (c.number ≡ e.number))
    → Ran due s es k (stop_at s es k f)
stopped_at due s es k f stops fault = record {
  m = 0;
  done = omega arith;
  fits = omega arith;
  waiting = refl;
  were_due = tt;
  judged = omega arith;
  threads = refl;
  owed = refl;
  begins = refl;
  ends = refl;
  dropped = refl;
  homes_long = refl;
  homes = λ _ _. refl;
  lawful = λ _. tt;
  stops = stops;
  fault = fault;
}

pub ran : (due : Ended → Bool) (s : State) (es : List Ended) (k : ℕ) → Ran due s es k (judge due s es k)
ran due s [] k = stopped_at due s [] k None (λ _ e rest h. let z : ◌≡◌ {A = ℕ} 0 1 = cc in absurd (omega arith)) (λ c h. let z : ◌≡◌ {A = ℕ} 0 1 = cc in absurd (omega arith))
ran due s (e ∷ es) k = by (due e) refl (home_laws (home_of s e.place) e) refl (ran due (judged_one s e) es (k + 1))
  where
    still : All (λ e. e.place < length s.homes) (e ∷ es) → All (λ x. x.place < length (judged_one s e).homes) es
    still h = all_map es (λ x k. subst (λ n. x.place < n) (sym (length-set s.homes e.place _)) k) h.1

    not_due : due e ≡ false → (x : Ended) (rest : List Ended) → e ∷ es ≡ x ∷ rest → due x ≡ false
    not_due d x rest h = let w : e ≡ x = cc in ap due (sym w) ∙ d

    by : (b : Bool) → due e ≡ b → (o : Option Conviction) → home_laws (home_of s e.place) e ≡ o → Ran due (judged_one s e) es (k + 1) (judge due (judged_one s e) es (k + 1))
        → Ran due s (e ∷ es) k (go_on b o (stop_at s (e ∷ es) k) (judge due (judged_one s e) es (k + 1)))
    by true d None q r = record {
      m = suc r.m;
      done = r.done ∙ omega arith;
      fits = omega (arith, r.fits);
      waiting = r.waiting;
      were_due = (d, r.were_due);
      judged = r.judged ∙ omega arith;
      threads = r.threads;
      owed = r.owed;
      begins = r.begins;
      ends = r.ends;
      dropped = r.dropped;
      homes_long = r.homes_long ∙ length-set s.homes e.place _;
      homes = λ h p. r.homes (still h) p ∙ ap (λ x. home_after p x (take r.m es)) (home_next s.homes e h.0 p);
      lawful = λ h. (q, lawful_like _ _ (take r.m es) (all_always (take r.m es) (λ x. ap unmarked (home_next s.homes e h.0 x.place))) (r.lawful (still h)));
      stops = r.stops;
      fault = r.fault;
    }
    by true d (Some c) q r = stopped_at due s (e ∷ es) k (Some c) (λ h _ _ _. let z : ◌≡◌ {A = ℕ} 0 1 = cc in absurd (omega arith))
        (λ c' h. (e, es, refl, (let w : c ≡ c' = cc in ap (λ x. x.number) (sym w) ∙ law_names (home_of s e.place) e c q)))
    by false d None q r = stopped_at due s (e ∷ es) k None (λ _. not_due d) (λ c h. let z : ◌≡◌ {A = ℕ} 0 1 = cc in absurd (omega arith))
    by false d (Some c) q r = stopped_at due s (e ∷ es) k None (λ _. not_due d) (λ c h. let z : ◌≡◌ {A = ℕ} 0 1 = cc in absurd (omega arith))

one_true : (b : Bool) → one_if b + 0 ≡ 1 → b ≡ true
one_true true h = refl
one_true false h = absurd (omega arith)

-- a row that passes every test that e passes
alike : (x e : Ended) → ((p : Ended → Bool) → one_if (p x) + 0 ≡ one_if (p e)) → x ≡ e
alike x e h = same_row_true x e (one_true _ (h (λ r. same_row r e) ∙ ap one_if (same_row_refl e)))

only : (e : Ended) (rs : List Ended) → ((p : Ended → Bool) → count p rs ≡ one_if (p e)) → rs ≡ e ∷ []
only e [] h = absurd (let k = h (λ _. true) in omega arith)
only e (x ∷ []) h = ap (λ r. r ∷ []) (alike x e h)
only e (x ∷ (y ∷ ys)) h = absurd (let k = h (λ _. true) in omega arith)

-- the waiting of the watch are those of the log
abbrev pub Waits : List Ended → List Entry → Type 0
Waits ws es = (p : Ended → Bool) → count p ws ≡ tally Waiting p es

module _ (e : Ended) (ws : List Ended) (o : InOrder sooner (e ∷ ws)) where
  abbrev first_of_all : Ended → Bool
  first_of_all r = not (there_is (λ x. sooner x r) (e ∷ ws))

  none_before : count (λ x. sooner x e) (e ∷ ws) ≡ 0
  none_before = count_none (λ x. sooner x e) (e ∷ ws) (sooner_self e, all_map ws (λ y h. sooner_other e y h) o.0)

  is_first : first_of_all e ≡ true
  is_first = ap (λ n. not (ltb 0 n)) none_before

  others : All (λ y. first_of_all y ≡ false) ws
  others = all_map ws (λ y h. ap not (lt-ltb 0 (count (λ x. sooner x y) (e ∷ ws)) (let k = ap one_if h in omega arith))) o.0

  pub firsts : (p : Ended → Bool) → count (λ r. first_of_all r && p r) (e ∷ ws) ≡ one_if (p e)
  firsts p =
      let a : one_if (first_of_all e && p e) ≡ one_if (p e) = ap (λ b. one_if (b && p e)) is_first in
      let b : count (λ r. first_of_all r && p r) ws ≡ 0 = count_none (λ r. first_of_all r && p r) ws (all_map ws (λ y h. ap (λ b. b && p y) h) others) in
      omega arith

  module _ (es : List Entry) (w : Waits (e ∷ ws) es) where
    next_is : (x : Entry) → next es x ≡ (is Waiting x && first_of_all x.row)
    next_is x = ap (λ n. is Waiting x && not (ltb 0 n)) (sym (w (λ r. sooner r x.row)))

    abbrev after : List Entry
    after = alter (next es) (stand Judged) es

    pub next_waits : Waits ws after
    next_waits p =
        let l = leave Waiting Judged first_of_all (next es) (stand Judged) (λ r. r) next_is (λ _. refl) (λ _. refl) (same Waiting) p es refl refl in
        let a = w (λ r. first_of_all r && p r) in
        let b = firsts p in
        let c = w p in
        omega arith

    pub next_judged : (p : Ended → Bool) → tally Judged p after ≡ tally Judged p es + one_if (p e)
    next_judged p =
        let l = join Waiting Judged first_of_all (next es) (stand Judged) (λ r. r) next_is (λ _. refl) (λ _. refl) (same Judged) p es refl refl in
        let a = w (λ r. first_of_all r && p r) in
        let b = firsts p in
        omega arith

    pub next_stay : (A : Account → Bool) (p : Ended → Bool) → A Waiting ≡ A Judged → tallies A p after ≡ tallies A p es
    next_stay A p h = by (A Waiting) refl
      where
        by : (b : Bool) → A Waiting ≡ b → tallies A p after ≡ tallies A p es
        by true k = within Waiting Judged first_of_all (next es) (stand Judged) (λ r. r) next_is (λ _. refl) (λ _. refl) A p es k (sym h ∙ k) (λ _. refl)
        by false k = stay Waiting Judged first_of_all (next es) (stand Judged) (λ r. r) next_is (λ _. refl) (λ _. refl) A p es k (sym h ∙ k)

    pub next_row : map (λ x. x.row) (filter (next es) es) ≡ e ∷ []
    next_row = only e _ (λ p.
        count_map p (λ x. x.row) (filter (next es) es)
        ∙ count_filter (next es) (λ x. p x.row) es
        ∙ count_like _ _ es (λ x. ap (λ b. b && p x.row) (next_is x) ∙ assoc (is Waiting x) (first_of_all x.row) (p x.row))
        ∙ sym (w (λ r. first_of_all r && p r)) ∙ firsts p)
      where
        assoc : (a b c : Bool) → ((a && b) && c) ≡ (a && (b && c))
        assoc true b c = refl
        assoc false b c = refl

-- the log judges the first m of the waiting.
pub record Noted (ws : List Ended) (l l' : Log) (m : ℕ) : Type 0 where
  pub waiting : Waits (drop m ws) l'.epochs
  pub judgings : l'.judgings ≡ l.judgings ++ take m ws
  pub judged : (p : Ended → Bool) → tally Judged p l'.epochs ≡ tally Judged p l.epochs + count p (take m ws)
  pub others : (A : Account → Bool) (p : Ended → Bool) → A Waiting ≡ A Judged → tallies A p l'.epochs ≡ tallies A p l.epochs
  pub long : length l'.epochs ≡ length l.epochs

pub noted : (ws : List Ended) (l : Log) (m : ℕ) → m ≤ length ws → InOrder sooner ws → Waits ws l.epochs → Noted ws l (judge_many m l) m
noted ws l zero f o w = record { waiting = w; judgings = sym (append-nil l.judgings); judged = λ p. omega arith; others = λ A p h. refl; long = refl }
noted [] l (suc m) f o w = absurd (not-suc-le-zero f)
noted (e ∷ ws) l (suc m) f o w =
    let es = l.epochs in
    let i = noted ws (judge_next l) m (le_of_suc-le-suc f) o.1 (next_waits e ws o es w) in
    record {
      waiting = i.waiting;
      judgings = i.judgings ∙ ap (λ x. (l.judgings ++ x) ++ take m ws) (next_row e ws o es w) ∙ append_assoc l.judgings (e ∷ []) (take m ws);
      judged = λ p. let a = i.judged p in let b = next_judged e ws o es w p in omega arith;
      others = λ A p h. i.others A p h ∙ next_stay e ws o es w A p h;
      long = i.long ∙ length_alter (next es) (stand Judged) es;
    }

-- the conviction of a waiting notice tells those before it
module _ (front rest : List Ended) (e : Ended) (n : ℕ) (is_n : e.number ≡ n) (o : InOrder sooner (front ++ (e ∷ rest)))
    (one : count (λ x. eqb x.number n) (front ++ (e ∷ rest)) ≤ 1) where
  named : eqb e.number n ≡ true
  named = eq-eqb e.number n is_n

  zero_and : (q : Ended → Bool) (xs : List Ended) → count (λ x. eqb x.number n) xs ≡ 0 → count (λ x. eqb x.number n && q x) xs ≡ 0
  zero_and q xs h = count_none (λ x. eqb x.number n && q x) xs (all_map xs (λ x k. ap (λ b. b && q x) k) (none_count (λ x. eqb x.number n) xs h))

  the_one : (q : Ended → Bool) → count (λ x. eqb x.number n && q x) (front ++ (e ∷ rest)) ≡ one_if (q e)
  the_one q =
      let a = count_append (λ x. eqb x.number n) front (e ∷ rest) in
      let b = ap one_if named in
      let c = count_append (λ x. eqb x.number n && q x) front (e ∷ rest) in
      let d : one_if (eqb e.number n && q e) ≡ one_if (q e) = ap (λ b. one_if (b && q e)) named in
      let f = zero_and q front (omega arith) in
      let g = zero_and q rest (omega arith) in
      omega arith

  those_before : count (λ r. sooner r e) (front ++ (e ∷ rest)) ≡ length front
  those_before =
      let a = count_append (λ r. sooner r e) front (e ∷ rest) in
      let cross = all_sorted_cross sooner front (e ∷ rest) o in
      let tail = in_order_right sooner front (e ∷ rest) o in
      let b : count (λ r. sooner r e) front ≡ length front = count_like_in (λ r. sooner r e) (λ _. true) front (all_map front (λ x h. h.0) cross) ∙ count_all front in
      let c : count (λ r. sooner r e) (e ∷ rest) ≡ 0 = none_before e rest tail in
      omega arith

  pub ahead : (es : List Entry) → Waits (front ++ (e ∷ rest)) es → ahead_of n es ≡ length front
  ahead es w =
      let ws = front ++ (e ∷ rest) in
      sym (w (λ r. ltb 0 (tally Waiting (λ x. eqb x.number n && sooner r x) es)))
      ∙ count_like _ (λ r. sooner r e) ws (λ r. ap (ltb 0) (sym (w (λ x. eqb x.number n && sooner r x)) ∙ the_one (λ x. sooner r x)) ∙ by (sooner r e))
      ∙ those_before
    where
      by : (b : Bool) → ltb 0 (one_if b) ≡ b
      by true = refl
      by false = refl

pub ahead_at : (ws : List Ended) (m n : ℕ) (e : Ended) (rest : List Ended) (es : List Entry) → m ≤ length ws → drop m ws ≡ e ∷ rest → e.number ≡ n → InOrder sooner ws
    → count (λ x. eqb x.number n) ws ≤ 1 → Waits ws es → ahead_of n es ≡ m
ahead_at ws m n e rest es l d k o one w =
    let p : ws ≡ take m ws ++ (e ∷ rest) = sym (take-append-drop m ws) ∙ ap (λ x. take m ws ++ x) d in
    ahead (take m ws) rest e n k (subst (InOrder sooner) p o) (subst (λ x. count (λ x. eqb x.number n) x ≤ 1) p one) es (subst (λ x. Waits x es) p w)
    ∙ length-take-le m ws l
