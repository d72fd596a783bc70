-- Lists: members, positions, rising keys, and what find, filter, change and last_of make. Assumes nothing.
use Rattle.std.proofs.Common.{◌≡◌, ℕ, ◌<◌, ◌≤◌, Bool, true, false, cond, ltb, ◌⊎◌, List, [], ◌∷◌, ◌++◌, length, get_or, Some, None, Option, sym, refl, ap, ◌∙◌, subst, inl, inr, ⊎_elim, arith}
use Rattle.std.proofs.lemmas.List.{length_push, get_or_push}
use Rattle.std.proofs.lemmas.Bool.{true≢false, both_ways, ltb-true, ltb-false}
use Rattle.std.specs.List.{find, filter}
use lib.ListN.{get_or-append}
use Rattle.semantics.specs.Lists.{last_of, change}

-- x is a member.
abbrev pub Mem : {A : Type 0} → A → List A → Type 0
Mem x [] = ⊥
Mem x (y ∷ ys) = (x ≡ y) ⊎ Mem x ys

pub mem_push_old : {A : Type 0} (x y : A) (xs : List A) → Mem x xs → Mem x (xs ++ (y ∷ []))
mem_push_old x y [] m = absurd m
mem_push_old x y (z ∷ zs) (inl e) = inl e
mem_push_old x y (z ∷ zs) (inr m) = inr (mem_push_old x y zs m)

pub mem_push_new : {A : Type 0} (y : A) (xs : List A) → Mem y (xs ++ (y ∷ []))
mem_push_new y [] = inl refl
mem_push_new y (z ∷ zs) = inr (mem_push_new y zs)

pub mem_push : {A : Type 0} (x y : A) (xs : List A) → Mem x (xs ++ (y ∷ [])) → Mem x xs ⊎ (x ≡ y)
mem_push x y [] (inl e) = inr e
mem_push x y [] (inr m) = absurd m
mem_push x y (z ∷ zs) (inl e) = inl (inl e)
mem_push x y (z ∷ zs) (inr m) = ⊎_elim (λ k. inl (inr k)) inr (mem_push x y zs m)

-- The k-th of xs is x.
pub record Nth {A : Type 0} (d : A) (xs : List A) (k : ℕ) (x : A) : Type 0 where
  pub within : k < length xs
  pub is : get_or xs k d ≡ x

pub nth_here : {A : Type 0} (d : A) (xs : List A) (k : ℕ) → k < length xs → Nth d xs k (get_or xs k d)
nth_here d xs k h = record { within = h; is = refl }

pub nth_old : {A : Type 0} {d : A} {xs : List A} {k : ℕ} {x : A} (y : A) → Nth d xs k x → Nth d (xs ++ (y ∷ [])) k x
nth_old {d = d} {xs} {k} {x} y h =
    let l = length_push xs y in
    let w = h.within in
    record { within = omega arith; is = get_or-append xs (y ∷ []) d k h.within ∙ h.is }

pub nth_new : {A : Type 0} (d : A) (xs : List A) (y : A) → Nth d (xs ++ (y ∷ [])) (length xs) y
nth_new d xs y = let l = length_push xs y in record { within = omega arith; is = get_or_push xs y d (length xs) refl }

pub nth_push : {A : Type 0} {d : A} (xs : List A) (y : A) {k : ℕ} {x : A} → Nth d (xs ++ (y ∷ [])) k x → Nth d xs k x ⊎ ((k ≡ length xs) × (x ≡ y))
nth_push {d = d} xs y {k} {x} h = by (ltb k (length xs)) refl
  where
    by : (b : Bool) → ltb k (length xs) ≡ b → Nth d xs k x ⊎ ((k ≡ length xs) × (x ≡ y))
    by true p = let l : k < length xs = grind (arith, ltb-true) in inl (record { within = l; is = sym (get_or-append xs (y ∷ []) d k l) ∙ h.is })
    by false p =
        let g = ltb-false k (length xs) p in
        let l = length_push xs y in
        let w = h.within in
        let e : k ≡ length xs = omega arith in
        inr (e, sym h.is ∙ get_or_push xs y d k (sym e))

-- What holds of each and of one more holds of each after that is put last.
pub nth_all : {A : Type 0} {d : A} (xs : List A) (y : A) {C : ℕ → A → Type 0} → ((k : ℕ) (x : A) → Nth d xs k x → C k x) → C (length xs) y → (k : ℕ) (x : A) → Nth d (xs ++ (y ∷ [])) k x → C k x
nth_all xs y {C} old new k x h = ⊎_elim (λ g. old k x g) (λ e. rw (e.0, e.1) new) (nth_push xs y h)

pub nth_same : {A : Type 0} {d : A} {xs : List A} {k : ℕ} {x y : A} → Nth d xs k x → Nth d xs k y → x ≡ y
nth_same h g = sym h.is ∙ g.is

-- What find answers.
pub find_none : {A : Type 0} (p : A → Bool) (xs : List A) → find p xs ≡ None → (x : A) → Mem x xs → p x ≡ false
find_none p [] e x m = absurd m
find_none p (y ∷ ys) e x m = by (p y) refl e m (find_none p ys)
  where
    by : (b : Bool) → p y ≡ b → cond b (Some y) (find p ys) ≡ None → (x ≡ y) ⊎ Mem x ys → (find p ys ≡ None → (x : _) → Mem x ys → p x ≡ false) → p x ≡ false
    by true q e m ih = let z : ◌≡◌ {A = ℕ} 0 1 = cc in absurd (omega arith)
    by false q e (inl r) ih = ap p r ∙ q
    by false q e (inr m) ih = ih e x m

pub find_some : {A : Type 0} (p : A → Bool) (xs : List A) (x : A) → find p xs ≡ Some x → Mem x xs × (p x ≡ true)
find_some p [] x e = let z : ◌≡◌ {A = ℕ} 0 1 = cc in absurd (omega arith)
find_some p (y ∷ ys) x e = by (p y) refl e (find_some p ys x)
  where
    by : (b : Bool) → p y ≡ b → cond b (Some y) (find p ys) ≡ Some x → (find p ys ≡ Some x → Mem x ys × (p x ≡ true)) → ((x ≡ y) ⊎ Mem x ys) × (p x ≡ true)
    by true q e ih = let r : x ≡ y = cc in (inl r, ap p r ∙ q)
    by false q e ih = let r = ih e in (inr r.0, r.1)

pub find_push_no : {A : Type 0} (p : A → Bool) (xs : List A) (y : A) → p y ≡ false → find p (xs ++ (y ∷ [])) ≡ find p xs
find_push_no p [] y e = ap (λ b. cond b (Some y) None) e
find_push_no p (x ∷ xs) y e = ap (λ r. cond (p x) (Some x) r) (find_push_no p xs y e)

pub find_push_yes : {A : Type 0} (p : A → Bool) (xs : List A) (y : A) → find p xs ≡ None → p y ≡ true → find p (xs ++ (y ∷ [])) ≡ Some y
find_push_yes p [] y n e = ap (λ b. cond b (Some y) None) e
find_push_yes p (x ∷ xs) y n e = by (p x) refl n (find_push_yes p xs y)
  where
    by : (b : Bool) → p x ≡ b → cond b (Some x) (find p xs) ≡ None → (find p xs ≡ None → p y ≡ true → find p (xs ++ (y ∷ [])) ≡ Some y) → cond (p x) (Some x) (find p (xs ++ (y ∷ []))) ≡ Some y
    by true q n ih = cc
    by false q n ih = rw q (ih n e)

-- What filter leaves.
pub filter_mem : {A : Type 0} (p : A → Bool) (xs : List A) (x : A) → Mem x (filter p xs) → Mem x xs × (p x ≡ true)
filter_mem p [] x m = absurd m
filter_mem p (y ∷ ys) x m = by (p y) refl m (filter_mem p ys x)
  where
    by : (b : Bool) → p y ≡ b → Mem x (cond b (y ∷ filter p ys) (filter p ys)) → (Mem x (filter p ys) → Mem x ys × (p x ≡ true)) → ((x ≡ y) ⊎ Mem x ys) × (p x ≡ true)
    by true q (inl e) ih = (inl e, ap p e ∙ q)
    by true q (inr k) ih = let r = ih k in (inr r.0, r.1)
    by false q k ih = let r = ih k in (inr r.0, r.1)

pub mem_filter : {A : Type 0} (p : A → Bool) (xs : List A) (x : A) → Mem x xs → p x ≡ true → Mem x (filter p xs)
mem_filter p [] x m e = m
mem_filter p (y ∷ ys) x m e = by (p y) refl m (λ k. mem_filter p ys x k e)
  where
    by : (b : Bool) → p y ≡ b → (x ≡ y) ⊎ Mem x ys → (Mem x ys → Mem x (filter p ys)) → Mem x (cond b (y ∷ filter p ys) (filter p ys))
    by true q (inl r) ih = inl r
    by true q (inr k) ih = inr (ih k)
    by false q (inl r) ih = let z : true ≡ false = sym e ∙ ap p r ∙ q in absurd (true≢false z)
    by false q (inr k) ih = ih k

pub find_filter : {A : Type 0} (f k : A → Bool) (xs : List A) → ((x : A) → f x ≡ true → k x ≡ true) → find f (filter k xs) ≡ find f xs
find_filter f k [] h = refl
find_filter f k (x ∷ xs) h = by (k x) refl (f x) refl (find_filter f k xs h)
  where
    by : (b : Bool) → k x ≡ b → (c : Bool) → f x ≡ c → find f (filter k xs) ≡ find f xs → find f (cond b (x ∷ filter k xs) (filter k xs)) ≡ cond (f x) (Some x) (find f xs)
    by true q c r ih = ap (λ z. cond (f x) (Some x) z) ih
    by false q true r ih = absurd (both_ways (k x) q (h x r))
    by false q false r ih = rw r ih

pub find_kept_out : {A : Type 0} (f k : A → Bool) (xs : List A) → ((x : A) → f x ≡ true → k x ≡ false) → find f (filter k xs) ≡ None
find_kept_out f k [] h = refl
find_kept_out f k (x ∷ xs) h = by (k x) refl (f x) refl (find_kept_out f k xs h)
  where
    by : (b : Bool) → k x ≡ b → (c : Bool) → f x ≡ c → find f (filter k xs) ≡ None → find f (cond b (x ∷ filter k xs) (filter k xs)) ≡ None
    by true q true r ih = absurd (both_ways (k x) (h x r) q)
    by true q false r ih = rw r ih
    by false q c r ih = ih

-- What find answers after a change.
pub find_change_other : {A : Type 0} (f p : A → Bool) (g : A → A) (xs : List A) → ((x : A) → p x ≡ true → (f x ≡ false) × (f (g x) ≡ false)) → find f (change p g xs) ≡ find f xs
find_change_other f p g [] h = refl
find_change_other f p g (x ∷ xs) h = by (p x) refl (find_change_other f p g xs h)
  where
    by : (b : Bool) → p x ≡ b → find f (change p g xs) ≡ find f xs → find f (cond b (g x ∷ xs) (x ∷ change p g xs)) ≡ cond (f x) (Some x) (find f xs)
    by true q ih = let r = h x q in rw (r.0, r.1)
    by false q ih = ap (λ z. cond (f x) (Some x) z) ih

pub find_change_same : {A : Type 0} (p : A → Bool) (g : A → A) (xs : List A) (e : A) → find p xs ≡ Some e → p (g e) ≡ true → find p (change p g xs) ≡ Some (g e)
find_change_same p g [] e h r = let z : ◌≡◌ {A = ℕ} 0 1 = cc in absurd (omega arith)
find_change_same p g (x ∷ xs) e h r = by (p x) refl h (λ k. find_change_same p g xs e k r)
  where
    by : (b : Bool) → p x ≡ b → cond b (Some x) (find p xs) ≡ Some e → (find p xs ≡ Some e → find p (change p g xs) ≡ Some (g e)) → find p (cond b (g x ∷ xs) (x ∷ change p g xs)) ≡ Some (g e)
    by true q k ih = let s : x ≡ e = cc in rw s (rw r)
    by false q k ih = rw q (ih k)

-- The key f rises from each to those after it.
abbrev pub Rising : {A : Type 0} → (A → ℕ) → List A → Type 0
Rising {A} f [] = Unit {0}
Rising {A} f (x ∷ xs) = ((y : A) → Mem y xs → f x < f y) × Rising f xs

pub rising_push : {A : Type 0} (f : A → ℕ) (xs : List A) (z : A) → Rising f xs → ((y : A) → Mem y xs → f y < f z) → Rising f (xs ++ (z ∷ []))
rising_push f [] z r h = (λ y m. absurd m, tt)
rising_push f (x ∷ xs) z r h =
    (λ y m. ⊎_elim (λ k. r.0 y k) (λ e. subst (λ w. f x < f w) (sym e) (h x (inl refl))) (mem_push y z xs m), rising_push f xs z r.1 (λ y m. h y (inr m)))

pub rising_filter : {A : Type 0} (f : A → ℕ) (p : A → Bool) (xs : List A) → Rising f xs → Rising f (filter p xs)
rising_filter f p [] r = tt
rising_filter f p (x ∷ xs) r = by (p x) (rising_filter f p xs r.1)
  where
    by : (b : Bool) → Rising f (filter p xs) → Rising f (cond b (x ∷ filter p xs) (filter p xs))
    by true ih = (λ y m. r.0 y (filter_mem p xs y m).0, ih)
    by false ih = ih

pub rising_one : {A : Type 0} (f : A → ℕ) (xs : List A) → Rising f xs → (x y : A) → Mem x xs → Mem y xs → f x ≡ f y → x ≡ y
rising_one f [] r x y m n e = absurd m
rising_one f (z ∷ zs) r x y (inl p) (inl q) e = p ∙ sym q
rising_one f (z ∷ zs) r x y (inl p) (inr n) e = let l = r.0 y n in let k : f x ≡ f z = ap f p in absurd (omega arith)
rising_one f (z ∷ zs) r x y (inr m) (inl q) e = let l = r.0 x m in let k : f y ≡ f z = ap f q in absurd (omega arith)
rising_one f (z ∷ zs) r x y (inr m) (inr n) e = rising_one f zs r.1 x y m n e

-- What last_of answers.
pub last_none : {A : Type 0} (xs : List A) → last_of xs ≡ None → (y : A) → Mem y xs → ⊥
last_none [] e y m = m
last_none {A} (x ∷ xs) e y m = by (last_of xs) e
  where
    by : (o : Option A) → ◌≡◌ {A = Option A} (elim o [ None ↦ Some x | Some z ↦ Some z ]) None → ⊥
    by None e = let z : ◌≡◌ {A = ℕ} 0 1 = cc in omega arith
    by (Some w) e = let z : ◌≡◌ {A = ℕ} 0 1 = cc in omega arith

pub last_some : {A : Type 0} (f : A → ℕ) (xs : List A) → Rising f xs → (s : A) → last_of xs ≡ Some s → Mem s xs × ((y : A) → Mem y xs → f y ≤ f s)
last_some f [] r s e = let z : ◌≡◌ {A = ℕ} 0 1 = cc in absurd (omega arith)
last_some {A} f (x ∷ xs) r s e = by (last_of xs) refl e (last_some f xs r.1)
  where
    by : (o : Option A) → last_of xs ≡ o → ◌≡◌ {A = Option A} (elim o [ None ↦ Some x | Some z ↦ Some z ]) (Some s) → ((s : A) → last_of xs ≡ Some s → Mem s xs × ((y : A) → Mem y xs → f y ≤ f s)) → ((s ≡ x) ⊎ Mem s xs) × ((y : A) → (y ≡ x) ⊎ Mem y xs → f y ≤ f s)
    by None p e ih = let q : s ≡ x = cc in let k = ap f q in (inl q, λ y m. ⊎_elim (λ g. let j = ap f g in omega arith) (λ n. absurd (last_none xs p y n)) m)
    by (Some w) p e ih =
        let q : w ≡ s = cc in
        let i = ih s (p ∙ ap Some q) in
        (inr i.0, λ y m. ⊎_elim (λ g. let j = ap f g in let l = r.0 s i.0 in omega arith) (λ n. i.1 y n) m)
