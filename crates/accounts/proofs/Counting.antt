-- How many of a list pass a test. Assumes nothing.
use Rattle.std.proofs.Common.{◌≡◌, ℕ, ◌+◌, ◌≤◌, Bool, true, false, eqb, List, [], ◌∷◌, ◌++◌, length, sym, refl, ap, ◌∙◌, ap₂, true≢false, arith, map}
use Rattle.std.proofs.lemmas.Bool.Decides.{nat_tests}
use Rattle.accounts.specs.Lists.{count, one_if, All, InOrder, Once}

pub one_le : (b : Bool) → one_if b ≤ 1
one_le true = omega arith
one_le false = omega arith

pub eqb_refl : (n : ℕ) → eqb n n ≡ true
eqb_refl n = grind (arith, nat_tests)

module _ {A : Type 0} where
  pub all_map : {P Q : A → Type 0} (xs : List A) → ((x : A) → P x → Q x) → All P xs → All Q xs
  all_map [] f h = tt
  all_map (x ∷ xs) f h = (f x h.0, all_map xs f h.1)

  pub all_append : (P : A → Type 0) (xs ys : List A) → All P xs → All P ys → All P (xs ++ ys)
  all_append P [] ys h k = k
  all_append P (x ∷ xs) ys h k = (h.0, all_append P xs ys h.1 k)

  pub all_left : (P : A → Type 0) (xs ys : List A) → All P (xs ++ ys) → All P xs
  all_left P [] ys h = tt
  all_left P (x ∷ xs) ys h = (h.0, all_left P xs ys h.1)

  pub all_right : (P : A → Type 0) (xs ys : List A) → All P (xs ++ ys) → All P ys
  all_right P [] ys h = h
  all_right P (x ∷ xs) ys h = all_right P xs ys h.1

  pub all_both : (P Q : A → Type 0) (xs : List A) → All P xs → All Q xs → All (λ x. P x × Q x) xs
  all_both P Q [] h k = tt
  all_both P Q (x ∷ xs) h k = ((h.0, k.0), all_both P Q xs h.1 k.1)

  pub all_always : {P : A → Type 0} (xs : List A) → ((x : A) → P x) → All P xs
  all_always [] f = tt
  all_always (x ∷ xs) f = (f x, all_always xs f)

  pub count_like_in : (p q : A → Bool) (xs : List A) → All (λ x. p x ≡ q x) xs → count p xs ≡ count q xs
  count_like_in p q [] h = refl
  count_like_in p q (x ∷ xs) h = ap₂ (λ a b. one_if a + b) h.0 (count_like_in p q xs h.1)

  pub count_like : (p q : A → Bool) (xs : List A) → ((x : A) → p x ≡ q x) → count p xs ≡ count q xs
  count_like p q xs h = count_like_in p q xs (all_always xs h)

  -- a test in two parts
  pub count_two : (p q r : A → Bool) (xs : List A) → ((x : A) → one_if (p x) ≡ one_if (q x) + one_if (r x)) → count p xs ≡ count q xs + count r xs
  count_two p q r [] h = refl
  count_two p q r (x ∷ xs) h = let i = count_two p q r xs h in let k = h x in omega arith

  pub count_append : (p : A → Bool) (xs ys : List A) → count p (xs ++ ys) ≡ count p xs + count p ys
  count_append p [] ys = omega arith
  count_append p (x ∷ xs) ys = let i = count_append p xs ys in omega arith

  pub count_push : (p : A → Bool) (xs : List A) (y : A) → count p (xs ++ (y ∷ [])) ≡ count p xs + one_if (p y)
  count_push p xs y = let i = count_append p xs (y ∷ []) in omega arith

  pub count_all : (xs : List A) → count (λ _. true) xs ≡ length xs
  count_all [] = refl
  count_all (x ∷ xs) = let i = count_all xs in omega arith

  pub count_none : (p : A → Bool) (xs : List A) → All (λ x. p x ≡ false) xs → count p xs ≡ 0
  count_none p [] h = refl
  count_none p (x ∷ xs) h = let i = count_none p xs h.1 in ap (λ b. one_if b + count p xs) h.0 ∙ omega arith

  pub none_count : (p : A → Bool) (xs : List A) → count p xs ≡ 0 → All (λ x. p x ≡ false) xs
  none_count p [] h = tt
  none_count p (x ∷ xs) h = (by (p x) refl, none_count p xs (omega arith))
    where
      by : (b : Bool) → p x ≡ b → p x ≡ false
      by true e = absurd (let k = ap one_if e in omega arith)
      by false e = e

  pub count_map : {C : Type 0} (p : C → Bool) (f : A → C) (xs : List A) → count p (map f xs) ≡ count (λ x. p (f x)) xs
  count_map p f [] = refl
  count_map p f (x ∷ xs) = ap (λ n. one_if (p (f x)) + n) (count_map p f xs)

  pub count_le : (p q : A → Bool) (xs : List A) → ((x : A) → one_if (p x) ≤ one_if (q x)) → count p xs ≤ count q xs
  count_le p q [] h = omega arith
  count_le p q (x ∷ xs) h = let i = count_le p q xs h in let k = h x in omega arith

  -- what stands in a list is counted
  pub all_counted : (xs : List A) → All (λ x. (p : A → Bool) → p x ≡ true → 1 ≤ count p xs) xs
  all_counted [] = tt
  all_counted (x ∷ xs) = ((λ p e. let k = ap one_if e in omega arith), all_map xs (λ y h p e. let k = h p e in omega arith) (all_counted xs))

  -- the one that passes a test stands there once
  pub once_from : (p : A → Bool) (x : A) (xs : List A) → ((y : A) → p y ≡ true → y ≡ x) → p x ≡ true → count p xs ≡ 1 → Once x xs
  once_from p x [] f h n = absurd (omega arith)
  once_from p x (y ∷ ys) f h n = by (p y) refl (once_from p x ys f h)
    where
      not_it : (z : A) → p z ≡ false → z ≡ x → ⊥
      not_it z e q = true≢false (sym h ∙ sym (ap p q) ∙ e)

      by : (b : Bool) → p y ≡ b → (count p ys ≡ 1 → Once x ys) → Once x (y ∷ ys)
      by true e i = record { front = []; back = ys; here = ap (λ z. z ∷ ys) (f y e); nowhere_else = all_map ys not_it (none_count p ys (let k = ap one_if e in omega arith)) }
      by false e i = let o = i (let k = ap one_if e in omega arith) in record { front = y ∷ o.front; back = o.back; here = ap (λ l. y ∷ l) o.here; nowhere_else = (not_it y e, o.nowhere_else) }

  pub all_sorted_cross : (lt : A → A → Bool) (xs ys : List A) → InOrder lt (xs ++ ys) → All (λ x. All (λ y. lt x y ≡ true) ys) xs
  all_sorted_cross lt [] ys h = tt
  all_sorted_cross lt (x ∷ xs) ys h = (all_right (λ y. lt x y ≡ true) xs ys h.0, all_sorted_cross lt xs ys h.1)

  pub in_order_left : (lt : A → A → Bool) (xs ys : List A) → InOrder lt (xs ++ ys) → InOrder lt xs
  in_order_left lt [] ys h = tt
  in_order_left lt (x ∷ xs) ys h = (all_left (λ y. lt x y ≡ true) xs ys h.0, in_order_left lt xs ys h.1)

  pub in_order_right : (lt : A → A → Bool) (xs ys : List A) → InOrder lt (xs ++ ys) → InOrder lt ys
  in_order_right lt [] ys h = h
  in_order_right lt (x ∷ xs) ys h = in_order_right lt xs ys h.1

  pub in_order_both : (lt : A → A → Bool) (xs ys : List A) → InOrder lt xs → InOrder lt ys → All (λ x. All (λ y. lt x y ≡ true) ys) xs → InOrder lt (xs ++ ys)
  in_order_both lt [] ys h k c = k
  in_order_both lt (x ∷ xs) ys h k c = (all_append (λ y. lt x y ≡ true) xs ys h.0 c.0, in_order_both lt xs ys h.1 k c.1)
