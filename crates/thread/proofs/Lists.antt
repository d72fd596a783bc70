-- What the first and the last that pass are. Assumes nothing.
use Rattle.std.proofs.Common.{◌≡◌, ℕ, zero, suc, ◌+◌, ◌<◌, ◌≤◌, Bool, true, false, not, cond, List, [], ◌∷◌, ◌++◌, set, get_or, length, reverse, remove, filter, find, is_some, Some, None, Option, refl, ap, sym, ◌∙◌, arith}
use Rattle.std.specs.List.{position, position_from}
use Rattle.std.specs.Option.{option_or}
use Rattle.std.proofs.lemmas.Iterator.Adapters.{position_from-zero}
use Rattle.std.proofs.lemmas.List.Folds.{find-append}
use Rattle.std.proofs.lemmas.List.Quantifiers.{position-Some}
use Rattle.std.proofs.lemmas.List.{reverse-append, append-nil}
use Rattle.std.proofs.lemmas.List.Elements.{filter-append}
use Rattle.std.proofs.lemmas.Option.{none-some}
use Rattle.semantics.specs.Lists.{change, last_of}

find_first : {A : Type 0} (p : A → Bool) (xs : List A) (i : ℕ) (d : A) → i < length xs → p (get_or xs i d) ≡ true → ((k : ℕ) → k < i → p (get_or xs k d) ≡ false) → find p xs ≡ Some (get_or xs i d)
find_first p [] i d l h b = absurd (omega arith)
find_first p (x ∷ xs) zero d l h b = ap (λ t. cond t (Some x) (find p xs)) h
find_first p (x ∷ xs) (suc i) d l h b = ap (λ t. cond t (Some x) (find p xs)) (b 0 (omega arith)) ∙ find_first p xs i d (omega arith) h (λ k m. b (suc k) (omega arith))

change_first : {A : Type 0} (p : A → Bool) (f : A → A) (xs : List A) (i : ℕ) (d : A) → i < length xs → p (get_or xs i d) ≡ true → ((k : ℕ) → k < i → p (get_or xs k d) ≡ false) → change p f xs ≡ set xs i (f (get_or xs i d))
change_first p f [] i d l h b = absurd (omega arith)
change_first p f (x ∷ xs) zero d l h b = ap (λ t. cond t (f x ∷ xs) (x ∷ change p f xs)) h
change_first p f (x ∷ xs) (suc i) d l h b = ap (λ t. cond t (f x ∷ xs) (x ∷ change p f xs)) (b 0 (omega arith)) ∙ ap (λ ys. x ∷ ys) (change_first p f xs i d (omega arith) h (λ k m. b (suc k) (omega arith)))

-- What stands in the row that `position` found.
pub record Found {A : Type 0} (p : A → Bool) (xs : List A) (i : ℕ) : Type 0 where
  pub within : i < length xs
  pub here : (d : A) → find p xs ≡ Some (get_or xs i d)
  pub passes : (d : A) → p (get_or xs i d) ≡ true
  pub changed : (f : A → A) (d : A) → change p f xs ≡ set xs i (f (get_or xs i d))

pub found_from_position : {A : Type 0} (p : A → Bool) (xs : List A) (i : ℕ) → position p xs ≡ Some i → Found p xs i
found_from_position p [] i h = absurd (none-some i h)
found_from_position p (x ∷ xs) i h = record {
  within = (position-Some p (x ∷ xs) i x h).0;
  here = λ d. let at = position-Some p (x ∷ xs) i d h in find_first p (x ∷ xs) i d at.0 at.1 at.2;
  passes = λ d. (position-Some p (x ∷ xs) i d h).1;
  changed = λ f d. let at = position-Some p (x ∷ xs) i d h in change_first p f (x ∷ xs) i d at.0 at.1 at.2;
}

none_from : {A : Type 0} (p : A → Bool) (n : ℕ) (xs : List A) → position_from p n xs ≡ None → find p xs ≡ None
none_from p n [] h = refl
none_from p n (x ∷ xs) h = by (p x) h (none_from p (n + 1) xs)
  where
    by : (b : Bool) → cond b (Some n) (position_from p (n + 1) xs) ≡ None → (position_from p (n + 1) xs ≡ None → find p xs ≡ None) → cond b (Some x) (find p xs) ≡ None
    by true h ih = absurd (none-some n (sym h))
    by false h ih = ih h

pub none_from_position : {A : Type 0} (p : A → Bool) (xs : List A) → position p xs ≡ None → find p xs ≡ None
none_from_position p xs h = none_from p 0 xs (sym (position_from-zero p xs) ∙ h)

-- Something is found where there is a row of it.
pub found_by_position : {A : Type 0} (p : A → Bool) (xs : List A) (d : A) (r : Option ℕ) → r ≡ position p xs → is_some (find p xs) ≡ is_some r
found_by_position p xs d None e = ap is_some (none_from_position p xs (sym e))
found_by_position p xs d (Some i) e = ap is_some ((found_from_position p xs i (sym e)).here d)

last_cons : {A : Type 0} (p : A → Bool) (x : A) (xs : List A) → option_or (last_of (filter p xs)) (find p (x ∷ [])) ≡ last_of (filter p (x ∷ xs))
last_cons {A} p x xs = by (p x) (filter p xs)
  where
    some : (o : Option A) → option_or o (Some x) ≡ elim o [ None ↦ Some x | Some y ↦ Some y ]
    some None = refl
    some (Some y) = refl

    none : (o : Option A) → option_or o None ≡ o
    none None = refl
    none (Some y) = refl

    by : (b : Bool) (ys : List A) → option_or (last_of ys) (cond b (Some x) None) ≡ last_of (cond b (x ∷ ys) ys)
    by true ys = some (last_of ys)
    by false ys = none (last_of ys)

-- The last that passes is the first of the list turned round.
pub find_reverse : {A : Type 0} (p : A → Bool) (xs : List A) → find p (reverse xs) ≡ last_of (filter p xs)
find_reverse p [] = refl
find_reverse p (x ∷ xs) = ap (find p) (reverse-append (x ∷ []) xs) ∙ find-append p (reverse xs) (x ∷ []) ∙ ap (λ o. option_or o (find p (x ∷ []))) (find_reverse p xs) ∙ last_cons p x xs

filter_reverse : {A : Type 0} (q : A → Bool) (xs : List A) → filter q (reverse xs) ≡ reverse (filter q xs)
filter_reverse q [] = refl
filter_reverse {A} q (x ∷ xs) =
    ap (filter q) (reverse-append (x ∷ []) xs) ∙ filter-append q (reverse xs) (x ∷ []) ∙ ap (λ ys. ys ++ filter q (x ∷ [])) (filter_reverse q xs) ∙ by (q x) (filter q xs)
  where
    by : (b : Bool) (ys : List A) → reverse ys ++ cond b (x ∷ []) [] ≡ reverse (cond b (x ∷ ys) ys)
    by true ys = sym (reverse-append (x ∷ []) ys)
    by false ys = append-nil (reverse ys)

-- The same among those that pass another test.
pub find_reverse_filter : {A : Type 0} (q p : A → Bool) (xs : List A) → find p (filter q (reverse xs)) ≡ last_of (filter p (filter q xs))
find_reverse_filter q p xs = ap (find p) (filter_reverse q xs) ∙ find_reverse p (filter q xs)

pub filter_le : {A : Type 0} (q : A → Bool) (xs : List A) → length (filter q xs) ≤ length xs
filter_le q [] = omega arith
filter_le q (x ∷ xs) = by (q x) (filter_le q xs)
  where
    by : (b : Bool) → length (filter q xs) ≤ length xs → length (cond b (x ∷ filter q xs) (filter q xs)) ≤ length (x ∷ xs)
    by true ih = omega arith
    by false ih = omega arith

-- What was found is taken out.
pub filter_shorter : {A : Type 0} (p : A → Bool) (xs : List A) (x : A) → find p xs ≡ Some x → length (filter (λ y. not (p y)) xs) + 1 ≤ length xs
filter_shorter p [] x e = absurd (none-some x e)
filter_shorter p (y ∷ ys) x e = by (p y) e (filter_shorter p ys x)
  where
    by : (b : Bool) → cond b (Some y) (find p ys) ≡ Some x → (find p ys ≡ Some x → length (filter (λ y. not (p y)) ys) + 1 ≤ length ys) → length (cond (not b) (y ∷ filter (λ y. not (p y)) ys) (filter (λ y. not (p y)) ys)) + 1 ≤ length (y ∷ ys)
    by true e ih = let k = filter_le (λ y. not (p y)) ys in omega arith
    by false e ih = let k = ih e in omega arith

-- A row that was found is no row of what is left.
pub filter_remove : {A : Type 0} (p : A → Bool) (xs : List A) (i : ℕ) (d : A) → i < length xs → p (get_or xs i d) ≡ true → filter (λ y. not (p y)) (remove xs i) ≡ filter (λ y. not (p y)) xs
filter_remove p [] i d l h = absurd (omega arith)
filter_remove p (x ∷ xs) zero d l h = sym (ap (λ b. cond (not b) (x ∷ filter (λ y. not (p y)) xs) (filter (λ y. not (p y)) xs)) h)
filter_remove p (x ∷ xs) (suc i) d l h = ap (λ ys. cond (not (p x)) (x ∷ ys) ys) (filter_remove p xs i d (omega arith) h)

-- Nothing is taken out where nothing was found.
pub filter_whole : {A : Type 0} (p : A → Bool) (xs : List A) → find p xs ≡ None → filter (λ y. not (p y)) xs ≡ xs
filter_whole p [] e = refl
filter_whole p (y ∷ ys) e = by (p y) e (filter_whole p ys)
  where
    by : (b : Bool) → cond b (Some y) (find p ys) ≡ None → (find p ys ≡ None → filter (λ y. not (p y)) ys ≡ ys) → cond (not b) (y ∷ filter (λ y. not (p y)) ys) (filter (λ y. not (p y)) ys) ≡ y ∷ ys
    by true e ih = absurd (none-some y (sym e))
    by false e ih = ap (λ zs. y ∷ zs) (ih e)
