-- Rows by tests: how a lookup goes on from row to row, two tests in turn, and lookups in the first n rows. Assumes nothing.
use Rattle.std.proofs.Common.{◌≡◌, ℕ, suc, ◌+◌, ◌-◌, ◌<◌, ◌≤◌, Bool, true, false, cond, not, List, [], ◌∷◌, ◌++◌, length, get_or, take, drop, set, filter, find, Some, None, sym, refl, ap, ◌∙◌, subst, arith}
use Rattle.std.proofs.lemmas.List.{drop_more, drop_all, take_more, append-nil, append_assoc, get_or_read, set_split, get_or-take, length-take}
use Rattle.std.proofs.lemmas.List.Elements.{filter-append}
use Rattle.semantics.specs.Lists.{change, last_of}
use Rattle.thread.proofs.Lists.{Found, filter_shorter}

-- The last that passes stands at i.
pub record FoundLast {A : Type 0} (p : A → Bool) (xs : List A) (i : ℕ) : Type 0 where
  pub within : i < length xs
  pub here : (d : A) → last_of (filter p xs) ≡ Some (get_or xs i d)

-- Nothing before i passes.
pub record Past {A : Type 0} (p : A → Bool) (xs : List A) (i : ℕ) : Type 0 where
  pub finds : find p (drop i xs) ≡ find p xs
  pub changes : (f : A → A) → change p f xs ≡ take i xs ++ change p f (drop i xs)

pub past_none : {A : Type 0} (p : A → Bool) (xs : List A) → Past p xs 0
past_none p xs = record { finds = refl; changes = λ f. refl }

find_not : {A : Type 0} (p : A → Bool) (x : A) (xs : List A) → p x ≡ false → find p (x ∷ xs) ≡ find p xs
find_not p x xs e = ap (λ b. cond b (Some x) (find p xs)) e

find_here : {A : Type 0} (p : A → Bool) (x : A) (xs : List A) → p x ≡ true → find p (x ∷ xs) ≡ Some x
find_here p x xs e = ap (λ b. cond b (Some x) (find p xs)) e

change_not : {A : Type 0} (p : A → Bool) (f : A → A) (x : A) (xs : List A) → p x ≡ false → change p f (x ∷ xs) ≡ x ∷ change p f xs
change_not p f x xs e = ap (λ b. cond b (f x ∷ xs) (x ∷ change p f xs)) e

change_here : {A : Type 0} (p : A → Bool) (f : A → A) (x : A) (xs : List A) → p x ≡ true → change p f (x ∷ xs) ≡ f x ∷ xs
change_here p f x xs e = ap (λ b. cond b (f x ∷ xs) (x ∷ change p f xs)) e

pub past_more : {A : Type 0} (p : A → Bool) (xs : List A) (i : ℕ) (x : A) → i < length xs → x ≡ get_or xs i x → p x ≡ false → Past p xs i → Past p xs (i + 1)
past_more p xs i x l e h q =
    let d : drop i xs ≡ x ∷ drop (i + 1) xs = drop_more xs i x l ∙ ap (λ y. y ∷ drop (i + 1) xs) (sym e) in
    let t : take (i + 1) xs ≡ take i xs ++ (x ∷ []) = take_more xs i x l ∙ ap (λ y. take i xs ++ (y ∷ [])) (sym e) in
    record {
      finds = sym (find_not p x (drop (i + 1) xs) h) ∙ sym (ap (find p) d) ∙ q.finds;
      changes = λ f. q.changes f ∙ ap (λ ys. take i xs ++ change p f ys) d ∙ ap (λ ys. take i xs ++ ys) (change_not p f x (drop (i + 1) xs) h)
          ∙ sym (append_assoc (take i xs) (x ∷ []) (change p f (drop (i + 1) xs))) ∙ sym (ap (λ ys. ys ++ change p f (drop (i + 1) xs)) t);
    }

pub past_found : {A : Type 0} (p : A → Bool) (xs : List A) (i : ℕ) (x : A) → i < length xs → x ≡ get_or xs i x → p x ≡ true → Past p xs i → Found p xs i
past_found p xs i x l e h q =
    let r : (d : _) → x ≡ get_or xs i d = get_or_read xs i x l e in
    let d : drop i xs ≡ x ∷ drop (i + 1) xs = drop_more xs i x l ∙ ap (λ y. y ∷ drop (i + 1) xs) (sym e) in
    record {
      within = l;
      here = λ z. sym q.finds ∙ ap (find p) d ∙ find_here p x (drop (i + 1) xs) h ∙ ap Some (r z);
      passes = λ z. sym (ap p (r z)) ∙ h;
      changed = λ f z. q.changes f ∙ ap (λ ys. take i xs ++ change p f ys) d ∙ ap (λ ys. take i xs ++ ys) (change_here p f x (drop (i + 1) xs) h)
          ∙ sym (placed xs i (f x) l) ∙ ap (λ y. set xs i (f y)) (r z);
    }
  where
    placed : {A : Type 0} (ys : List A) (k : ℕ) (y : A) → k < length ys → set ys k y ≡ take k ys ++ (y ∷ drop (k + 1) ys)
    placed ys k y m = let n : suc k ≡ k + 1 = omega arith in set_split ys k y m ∙ ap (λ n. take k ys ++ (y ∷ drop n ys)) n

pub past_all : {A : Type 0} (p : A → Bool) (xs : List A) (i : ℕ) → length xs ≤ i → Past p xs i → find p xs ≡ None
past_all p xs i l q = sym q.finds ∙ ap (find p) (drop_all i xs l)

last_push : {A : Type 0} (xs : List A) (x : A) → last_of (xs ++ (x ∷ [])) ≡ Some x
last_push [] x = refl
last_push (y ∷ ys) x = ap (λ o. elim o [ None ↦ Some y | Some z ↦ Some z ]) (last_push ys x)

-- Nothing from i on passes.
pub last_before : {A : Type 0} (p : A → Bool) (xs : List A) (i : ℕ) (x : A) → i < length xs → x ≡ get_or xs i x → p x ≡ false → filter p (take (i + 1) xs) ≡ filter p xs → filter p (take i xs) ≡ filter p xs
last_before p xs i x l e h q =
    let t : take (i + 1) xs ≡ take i xs ++ (x ∷ []) = take_more xs i x l ∙ ap (λ y. take i xs ++ (y ∷ [])) (sym e) in
    let n : filter p (x ∷ []) ≡ [] = ap (λ b. cond b (x ∷ []) []) h in
    sym (ap (filter p) t ∙ filter-append p (take i xs) (x ∷ []) ∙ ap (λ ys. filter p (take i xs) ++ ys) n ∙ append-nil (filter p (take i xs))) ∙ q

pub last_found : {A : Type 0} (p : A → Bool) (xs : List A) (i : ℕ) (x : A) → i < length xs → x ≡ get_or xs i x → p x ≡ true → filter p (take (i + 1) xs) ≡ filter p xs → FoundLast p xs i
last_found p xs i x l e h q =
    let t : take (i + 1) xs ≡ take i xs ++ (x ∷ []) = take_more xs i x l ∙ ap (λ y. take i xs ++ (y ∷ [])) (sym e) in
    let n : filter p (x ∷ []) ≡ x ∷ [] = ap (λ b. cond b (x ∷ []) []) h in
    let k : filter p xs ≡ filter p (take i xs) ++ (x ∷ []) = sym q ∙ ap (filter p) t ∙ filter-append p (take i xs) (x ∷ []) ∙ ap (λ ys. filter p (take i xs) ++ ys) n in
    record { within = l; here = λ d. ap last_of k ∙ last_push (filter p (take i xs)) x ∙ ap Some (get_or_read xs i x l e d) }

-- Two tests in turn.
pub keep_keep : {A : Type 0} (p q : A → Bool) (xs : List A) → filter q (filter p xs) ≡ filter (λ x. cond (p x) (q x) false) xs
keep_keep p q [] = refl
keep_keep p q (x ∷ xs) = by (p x) (keep_keep p q xs)
  where
    by : (b : Bool) → filter q (filter p xs) ≡ filter (λ x. cond (p x) (q x) false) xs
        → filter q (cond b (x ∷ filter p xs) (filter p xs)) ≡ cond (cond b (q x) false) (x ∷ filter (λ x. cond (p x) (q x) false) xs) (filter (λ x. cond (p x) (q x) false) xs)
    by true ih = ap (λ ys. cond (q x) (x ∷ ys) ys) ih
    by false ih = ih

pub find_keep : {A : Type 0} (p q : A → Bool) (xs : List A) → find q (filter p xs) ≡ find (λ x. cond (p x) (q x) false) xs
find_keep p q [] = refl
find_keep p q (x ∷ xs) = by (p x) (find_keep p q xs)
  where
    by : (b : Bool) → find q (filter p xs) ≡ find (λ x. cond (p x) (q x) false) xs
        → find q (cond b (x ∷ filter p xs) (filter p xs)) ≡ cond (cond b (q x) false) (Some x) (find (λ x. cond (p x) (q x) false) xs)
    by true ih = ap (λ o. cond (q x) (Some x) o) ih
    by false ih = ih

-- `&xs[0..n]` as the checker reads it.
pub whole : {A : Type 0} (P : List A → Type 0) (n : ℕ) (xs : List A) → P (take (n - 0) xs) → P (take n xs)
whole P n xs h = let e : n - 0 ≡ n = omega arith in subst (λ k. P (take k xs)) e h

pub below_count : {A : Type 0} (n i : ℕ) (xs : List A) → i < length (take n xs) → (i < n) × (i < length xs)
below_count n i xs l = let e = length-take n xs in (omega arith, omega arith)

pub found_row : {A : Type 0} (p : A → Bool) (n i : ℕ) (xs : List A) (d : A) → Found p (take (n - 0) xs) i → find p (take n xs) ≡ Some (get_or xs i d)
found_row p n i xs d h =
    let f : Found p (take n xs) i = whole (λ ys. Found p ys i) n xs h in
    f.here d ∙ ap Some (get_or-take n xs i d (below_count n i xs f.within).0)

pub last_row : {A : Type 0} (p : A → Bool) (n i : ℕ) (xs : List A) (d : A) → FoundLast p (take (n - 0) xs) i → last_of (filter p (take n xs)) ≡ Some (get_or xs i d)
last_row p n i xs d h =
    let f : FoundLast p (take n xs) i = whole (λ ys. FoundLast p ys i) n xs h in
    f.here d ∙ ap Some (get_or-take n xs i d (below_count n i xs f.within).0)

pub row_read : {A : Type 0} (p : A → Bool) (n i : ℕ) (xs : List A) (d : A) → Found p (take n xs) i → get_or (take n xs) i d ≡ get_or xs i d
row_read p n i xs d f = get_or-take n xs i d (below_count n i xs f.within).0

-- Fewer rows are left.
pub shorter : {A : Type 0} (p : A → Bool) (n m : ℕ) (xs ys : List A) (x : A) → n ≤ length xs → m ≤ length ys → find p (take n xs) ≡ Some x → take m ys ≡ filter (λ y. not (p y)) (take n xs) → m + 1 ≤ n
shorter p n m xs ys x l k f e =
    let a = length-take n xs in
    let b = length-take m ys in
    let c = ap length e in
    let d = filter_shorter p (take n xs) x f in
    omega arith
