-- What find, filter, change and insert do to counts and to order. Assumes nothing.
use Rattle.std.proofs.Common.{◌≡◌, ℕ, ◌+◌, ◌<◌, ◌≤◌, Bool, true, false, cond, not, ◌&&◌, ◌||◌, eqb, ltb, leb, ◌⊎◌, List, [], ◌∷◌, Some, None, sym, refl, ap, ◌∙◌, ap₂, inl, inr, arith}
use Rattle.std.proofs.lemmas.Bool.{cases_order, le-leb, lt-leb, lt-ltb, le-ltb, eq-eqb, ne_eqb, eqb-false}
use Rattle.std.proofs.lemmas.Bool.Decides.{nat_tests}
use Rattle.std.specs.List.{find, filter}
use Rattle.queue.specs.Fields.{in_turn}
use Rattle.semantics.specs.declared.row.Ended.{Ended}
use Rattle.semantics.specs.Judging.{ended_le, insert}
use Rattle.semantics.specs.Lists.{change}
use Rattle.accounts.specs.Accounts.{sooner}
use Rattle.accounts.specs.Lists.{count, one_if, All, InOrder}
use Rattle.accounts.proofs.Counting.{count_two, all_map, none_count, count_none}

module _ {A : Type 0} where
  find_yes : (p : A → Bool) (x : A) (xs : List A) → p x ≡ true → find p (x ∷ xs) ≡ Some x
  find_yes p x xs e = ap (λ b. cond b (Some x) (find p xs)) e

  find_no : (p : A → Bool) (x : A) (xs : List A) → p x ≡ false → find p (x ∷ xs) ≡ find p xs
  find_no p x xs e = ap (λ b. cond b (Some x) (find p xs)) e

  pub find_none : (p : A → Bool) (xs : List A) → find p xs ≡ None → count p xs ≡ 0
  find_none p [] h = refl
  find_none p (x ∷ xs) h = by (p x) refl (find_none p xs)
    where
      by : (b : Bool) → p x ≡ b → (find p xs ≡ None → count p xs ≡ 0) → one_if (p x) + count p xs ≡ 0
      by true e i = let z : ◌≡◌ {A = ℕ} 0 1 = (let k = sym (find_yes p x xs e) ∙ h in cc) in absurd (omega arith)
      by false e i = let k = i (sym (find_no p x xs e) ∙ h) in ap (λ b. one_if b + count p xs) e ∙ omega arith

  pub find_passes : (p : A → Bool) (xs : List A) (y : A) → find p xs ≡ Some y → p y ≡ true
  find_passes p [] y h = let z : ◌≡◌ {A = ℕ} 0 1 = cc in absurd (omega arith)
  find_passes p (x ∷ xs) y h = by (p x) refl (find_passes p xs y)
    where
      by : (b : Bool) → p x ≡ b → (find p xs ≡ Some y → p y ≡ true) → p y ≡ true
      by true e i = let k = sym (find_yes p x xs e) ∙ h in let w : x ≡ y = cc in ap p (sym w) ∙ e
      by false e i = i (sym (find_no p x xs e) ∙ h)

  -- where one passes at most, it is the one found
  pub find_one : (p q : A → Bool) (xs : List A) (y : A) → find p xs ≡ Some y → count p xs ≤ 1 → count (λ x. p x && q x) xs ≡ one_if (q y)
  find_one p q [] y h l = let z : ◌≡◌ {A = ℕ} 0 1 = cc in absurd (omega arith)
  find_one p q (x ∷ xs) y h l = by (p x) refl (find_one p q xs y)
    where
      none : count p xs ≡ 0 → count (λ x. p x && q x) xs ≡ 0
      none z = count_none (λ x. p x && q x) xs (all_map xs (λ x e. ap (λ b. b && q x) e) (none_count p xs z))

      by : (b : Bool) → p x ≡ b → (find p xs ≡ Some y → count p xs ≤ 1 → count (λ x. p x && q x) xs ≡ one_if (q y)) → one_if (p x && q x) + count (λ x. p x && q x) xs ≡ one_if (q y)
      by true e i =
          let k = sym (find_yes p x xs e) ∙ h in
          let w : x ≡ y = cc in
          let m : one_if (p x && q x) ≡ one_if (q y) = ap₂ (λ b c. one_if (b && c)) e (ap q w) in
          let c : one_if (p x) ≡ 1 = ap one_if e in
          let r = none (omega arith) in omega arith
      by false e i =
          let m : one_if (p x && q x) ≡ 0 = ap (λ b. one_if (b && q x)) e in
          let c : one_if (p x) ≡ 0 = ap one_if e in
          let r = i (sym (find_no p x xs e) ∙ h) (omega arith) in omega arith

  pub count_filter : (p q : A → Bool) (xs : List A) → count q (filter p xs) ≡ count (λ x. p x && q x) xs
  count_filter p q [] = refl
  count_filter p q (x ∷ xs) = by (p x) (count_filter p q xs)
    where
      by : (b : Bool) → count q (filter p xs) ≡ count (λ x. p x && q x) xs → count q (cond b (x ∷ filter p xs) (filter p xs)) ≡ one_if (b && q x) + count (λ x. p x && q x) xs
      by true i = ap (λ n. one_if (q x) + n) i
      by false i = omega arith

  -- the kept and the others
  pub count_kept : (p q : A → Bool) (xs : List A) → count q (filter (λ x. not (p x)) xs) + count (λ x. p x && q x) xs ≡ count q xs
  count_kept p q xs =
      let h = count_filter (λ x. not (p x)) q xs in
      let k = count_two q (λ x. not (p x) && q x) (λ x. p x && q x) xs (λ x. by (p x) (q x)) in omega arith
    where
      by : (a b : Bool) → one_if b ≡ one_if (not a && b) + one_if (a && b)
      by true b = omega arith
      by false b = omega arith

  pub count_change : (q : A → Bool) (p : A → Bool) (f : A → A) (xs : List A) → ((x : A) → q (f x) ≡ q x) → count q (change p f xs) ≡ count q xs
  count_change q p f [] h = refl
  count_change q p f (x ∷ xs) h = by (p x) (count_change q p f xs h)
    where
      by : (b : Bool) → count q (change p f xs) ≡ count q xs → count q (cond b (f x ∷ xs) (x ∷ change p f xs)) ≡ one_if (q x) + count q xs
      by true i = ap (λ b. one_if b + count q xs) (h x)
      by false i = ap (λ n. one_if (q x) + n) i

  -- what is found is none of those that a test counts, if there are none
  pub find_in : (q p : A → Bool) (xs : List A) (y : A) → find p xs ≡ Some y → count q xs ≡ 0 → q y ≡ false
  find_in q p [] y h z = let k : ◌≡◌ {A = ℕ} 0 1 = cc in absurd (omega arith)
  find_in q p (x ∷ xs) y h z = by (p x) refl (find_in q p xs y)
    where
      nq : q x ≡ false
      nq = (none_count q (x ∷ xs) z).0

      by : (b : Bool) → p x ≡ b → (find p xs ≡ Some y → count q xs ≡ 0 → q y ≡ false) → q y ≡ false
      by true e i = let k = sym (ap (λ b. cond b (Some x) (find p xs)) e) ∙ h in let w : x ≡ y = cc in ap q (sym w) ∙ nq
      by false e i = i (sym (ap (λ b. cond b (Some x) (find p xs)) e) ∙ h) (omega arith)

pub count_insert : (q : Ended → Bool) (e : Ended) (xs : List Ended) → count q (insert e xs) ≡ one_if (q e) + count q xs
count_insert q e [] = refl
count_insert q e (x ∷ xs) = by (ended_le e x) (count_insert q e xs)
  where
    by : (b : Bool) → count q (insert e xs) ≡ one_if (q e) + count q xs → count q (cond b (e ∷ x ∷ xs) (x ∷ insert e xs)) ≡ one_if (q e) + (one_if (q x) + count q xs)
    by true i = refl
    by false i = omega arith

pub all_insert : (P : Ended → Type 0) (e : Ended) (xs : List Ended) → P e → All P xs → All P (insert e xs)
all_insert P e [] h k = (h, tt)
all_insert P e (x ∷ xs) h k = by (ended_le e x) (all_insert P e xs h k.1)
  where
    by : (b : Bool) → All P (insert e xs) → All P (cond b (e ∷ x ∷ xs) (x ∷ insert e xs))
    by true i = (h, (k.0, k.1))
    by false i = (k.0, i)

sooner_chain : (a b c : Ended) → sooner a b ≡ true → sooner b c ≡ true → sooner a c ≡ true
sooner_chain a b c h k = grind (arith, nat_tests)

pub sooner_self : (a : Ended) → sooner a a ≡ false
sooner_self a = grind (arith, nat_tests)

pub sooner_other : (a b : Ended) → sooner a b ≡ true → sooner b a ≡ false
sooner_other a b h = grind (arith, nat_tests)

sooner_either : (a b : Ended) → eqb b.number a.number ≡ false → sooner a b ≡ false → sooner b a ≡ true
sooner_either a b n h = grind (arith, nat_tests)

-- of two fields in turn, the first that differs decides
turn_less : (x y : ℕ) (r : Bool) → x < y → in_turn leb x y r ≡ true
turn_less x y r h = ap₂ (λ u v. cond u (cond v r true) false) (le-leb x y (omega arith)) (lt-leb y x h)

turn_more : (x y : ℕ) (r : Bool) → y < x → in_turn leb x y r ≡ false
turn_more x y r h = ap (λ u. cond u (cond (leb y x) r true) false) (lt-leb x y h)

turn_same : (x y : ℕ) (r : Bool) → x ≡ y → in_turn leb x y r ≡ r
turn_same x y r h = ap₂ (λ u v. cond u (cond v r true) false) (le-leb x y (omega arith)) (le-leb y x (omega arith))

-- rows of different numbers stand by begin, then by number
le_is_sooner : (a b : Ended) → eqb b.number a.number ≡ false → ended_le a b ≡ sooner a b
le_is_sooner a b n = by (cases_order a.from b.from) (cases_order a.number b.number)
  where
    by : (a.from ≡ b.from) ⊎ ((a.from < b.from) ⊎ (b.from < a.from)) → (a.number ≡ b.number) ⊎ ((a.number < b.number) ⊎ (b.number < a.number)) → ended_le a b ≡ sooner a b
    by (inr (inl h)) k = turn_less a.from b.from _ h ∙ sym (ap (λ x. x || (eqb a.from b.from && ltb a.number b.number)) (lt-ltb a.from b.from h))
    by (inr (inr h)) k = turn_more a.from b.from _ h
        ∙ sym (ap₂ (λ x y. x || (y && ltb a.number b.number)) (le-ltb a.from b.from (omega arith)) (ne_eqb a.from b.from (λ e. omega arith)))
    by (inl h) k = turn_same a.from b.from _ h ∙ then _ k
        ∙ sym (ap₂ (λ x y. x || (y && ltb a.number b.number)) (le-ltb a.from b.from (omega arith)) (eq-eqb a.from b.from h))
      where
        then : (r : Bool) → (a.number ≡ b.number) ⊎ ((a.number < b.number) ⊎ (b.number < a.number)) → in_turn leb a.number b.number r ≡ ltb a.number b.number
        then r (inl e) = absurd (eqb-false b.number a.number n (sym e))
        then r (inr (inl e)) = turn_less a.number b.number r e ∙ sym (lt-ltb a.number b.number e)
        then r (inr (inr e)) = turn_more a.number b.number r e ∙ sym (le-ltb a.number b.number (omega arith))

pub in_order_insert : (e : Ended) (xs : List Ended) → All (λ x. eqb x.number e.number ≡ false) xs → InOrder sooner xs → InOrder sooner (insert e xs)
in_order_insert e [] n h = (tt, tt)
in_order_insert e (x ∷ xs) n h = by (ended_le e x) refl (in_order_insert e xs n.1 h.1)
  where
    by : (b : Bool) → ended_le e x ≡ b → InOrder sooner (insert e xs) → InOrder sooner (cond b (e ∷ x ∷ xs) (x ∷ insert e xs))
    by true s i = let k = sym (le_is_sooner e x n.0) ∙ s in ((k, all_map xs (λ y g. sooner_chain e x y k g) h.0), h)
    by false s i = (all_insert (λ y. sooner x y ≡ true) e xs (sooner_either e x n.0 (sym (le_is_sooner e x n.0) ∙ s)) h.0, i)
