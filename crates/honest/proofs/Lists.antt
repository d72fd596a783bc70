-- Lists that are searched, filtered and mapped, and what holds of every element. Assumes nothing.
use Rattle.std.proofs.Common.{◌≡◌, ℕ, zero, suc, ◌<◌, Bool, true, false, cond, List, [], ◌∷◌, ◌++◌, length, get_or, Some, None, Option, sym, refl, ap, ◌∙◌, subst, le_of_suc-le-suc, not-suc-le-zero, arith, map}
use Rattle.std.specs.List.{find, filter, flat_map}
use Rattle.semantics.specs.Lists.{last_of, change}
use Rattle.honest.specs.Machine.{Every}

-- A match on a test that keeps the equation.
pub by_test : (P : Bool → Type 0) (b : Bool) → (b ≡ true → P true) → (b ≡ false → P false) → P b
by_test P true f g = f refl
by_test P false f g = g refl

pub none≢some : {A : Type 0} {x : A} → ◌≡◌ {A = Option A} None (Some x) → ⊥
none≢some e = let z : ◌≡◌ {A = ℕ} 0 1 = cc in omega arith

-- What is searched.
pub find_none : {A : Type 0} (f : A → Bool) (xs : List A) → Every (λ x. f x ≡ false) xs → find f xs ≡ None
find_none f [] h = refl
find_none f (x ∷ xs) h = let r = find_none f xs h.1 in let a = h.0 in grind arith

pub find_is : {A : Type 0} (f : A → Bool) (xs : List A) (x : A) → find f xs ≡ Some x → f x ≡ true
find_is f [] x e = absurd (none≢some e)
find_is f (y ∷ ys) x e = let r = find_is f ys x in grind arith

pub record Found {A B : Type 0} (f : B → Bool) (g : A → B) (xs : List A) (y : B) : Type 0 where
  pub it : A
  pub found : find (λ z. f (g z)) xs ≡ Some it
  pub is : g it ≡ y

pub find_map_some : {A B : Type 0} (f : B → Bool) (g : A → B) (xs : List A) (y : B) → find f (map g xs) ≡ Some y → Found f g xs y
find_map_some f g [] y e = absurd (none≢some e)
find_map_some f g (x ∷ xs) y e = go (f (g x)) refl (find_map_some f g xs y)
  where
    go : (b : Bool) → f (g x) ≡ b → (find f (map g xs) ≡ Some y → Found f g xs y) → Found f g (x ∷ xs) y
    go true b r = let same : Some (g x) ≡ Some y = sym (ap (λ z. cond z (Some (g x)) (find f (map g xs))) b) ∙ e in
        record { it = x; found = ap (λ z. cond z (Some x) (find (λ z. f (g z)) xs)) b; is = cc }
    go false b r = let i = r (sym (ap (λ z. cond z (Some (g x)) (find f (map g xs))) b) ∙ e) in
        record { it = i.it; found = ap (λ z. cond z (Some x) (find (λ z. f (g z)) xs)) b ∙ i.found; is = i.is }

pub find_map : {A B : Type 0} (f : B → Bool) (g : A → B) (xs : List A) (x : A) → find (λ z. f (g z)) xs ≡ Some x → find f (map g xs) ≡ Some (g x)
find_map f g [] x e = absurd (none≢some e)
find_map f g (y ∷ ys) x e = let r = find_map f g ys x in grind arith

-- What is filtered and mapped.
pub filter_of_map : {A B : Type 0} (f : B → Bool) (g : A → B) (xs : List A) → filter f (map g xs) ≡ map g (filter (λ z. f (g z)) xs)
filter_of_map f g [] = refl
filter_of_map f g (x ∷ xs) = let r = filter_of_map f g xs in grind arith

pub map_change : {A B : Type 0} (g : A → B) (f : A → Bool) (h : A → A) → ((x : A) → g (h x) ≡ g x) → (xs : List A) → map g (change f h xs) ≡ map g xs
map_change g f h e [] = refl
map_change g f h e (x ∷ xs) = let r = map_change g f h e xs in
    by_test (λ b. map g (cond b (h x ∷ xs) (x ∷ change f h xs)) ≡ g x ∷ map g xs) (f x) (λ _. ap (λ z. z ∷ map g xs) (e x)) (λ _. ap (λ z. g x ∷ z) r)

pub filter_all : {A : Type 0} (f : A → Bool) (xs : List A) → Every (λ x. f x ≡ true) xs → filter f xs ≡ xs
filter_all f [] h = refl
filter_all f (x ∷ xs) h = let r = filter_all f xs h.1 in let a = h.0 in grind arith

-- What holds of every element.
pub every_to : {A : Type 0} {P Q : A → Type 0} → ((x : A) → P x → Q x) → (xs : List A) → Every P xs → Every Q xs
every_to f [] h = tt
every_to f (x ∷ xs) h = (f x h.0, every_to f xs h.1)

pub every_append : {A : Type 0} (P : A → Type 0) (xs ys : List A) → Every P xs → Every P ys → Every P (xs ++ ys)
every_append P [] ys a b = b
every_append P (x ∷ xs) ys a b = (a.0, every_append P xs ys a.1 b)

pub every_map : {A B : Type 0} (P : B → Type 0) (f : A → B) (xs : List A) → Every (λ x. P (f x)) xs → Every P (map f xs)
every_map P f [] h = tt
every_map P f (x ∷ xs) h = (h.0, every_map P f xs h.1)

pub every_filter : {A : Type 0} (P : A → Type 0) (f : A → Bool) (xs : List A) → Every P xs → Every P (filter f xs)
every_filter P f [] h = tt
every_filter P f (x ∷ xs) h = let r = every_filter P f xs h.1 in by_test (λ b. Every P (cond b (x ∷ filter f xs) (filter f xs))) (f x) (λ _. (h.0, r)) (λ _. r)

pub every_split : {A : Type 0} (P : A → Type 0) (xs ys : List A) → Every P (xs ++ ys) → Every P xs × Every P ys
every_split P [] ys h = (tt, h)
every_split P (x ∷ xs) ys h = let r = every_split P xs ys h.1 in ((h.0, r.0), r.1)

pub every_unmap : {A B : Type 0} (P : B → Type 0) (f : A → B) (xs : List A) → Every P (map f xs) → Every (λ x. P (f x)) xs
every_unmap P f [] h = tt
every_unmap P f (x ∷ xs) h = (h.0, every_unmap P f xs h.1)

pub every_flat_map : {A B : Type 0} (P : B → Type 0) (f : A → List B) (xs : List A) → Every (λ x. Every P (f x)) xs → Every P (flat_map f xs)
every_flat_map P f [] h = tt
every_flat_map P f (x ∷ xs) h = every_append P (f x) (flat_map f xs) h.0 (every_flat_map P f xs h.1)

pub every_unflat_map : {A B : Type 0} (P : B → Type 0) (f : A → List B) (xs : List A) → Every P (flat_map f xs) → Every (λ x. Every P (f x)) xs
every_unflat_map P f [] h = tt
every_unflat_map P f (x ∷ xs) h = let r = every_split P (f x) (flat_map f xs) h in (r.0, every_unflat_map P f xs r.1)

pub every_at : {A : Type 0} (P : A → Type 0) (d : A) (xs : List A) (i : ℕ) → i < length xs → Every P xs → P (get_or xs i d)
every_at P d [] i l h = absurd (not-suc-le-zero l)
every_at P d (x ∷ xs) zero l h = h.0
every_at P d (x ∷ xs) (suc i) l h = every_at P d xs i (le_of_suc-le-suc l) h.1

pub every_from : {A : Type 0} (P : A → Type 0) (d : A) (xs : List A) → ((i : ℕ) → i < length xs → P (get_or xs i d)) → Every P xs
every_from P d [] h = tt
every_from P d (x ∷ xs) h = (h 0 (omega arith), every_from P d xs (λ i l. h (suc i) (omega arith)))

pub every_push : {A : Type 0} (P : A → Type 0) (xs : List A) (x : A) → Every P xs → P x → Every P (xs ++ (x ∷ []))
every_push P xs x h p = every_append P xs (x ∷ []) h (p, tt)

pub every_found : {A : Type 0} (P : A → Type 0) (f : A → Bool) (xs : List A) (x : A) → Every P xs → find f xs ≡ Some x → P x
every_found P f [] x h e = absurd (none≢some e)
every_found P f (y ∷ ys) x h e = go (f y) refl (every_found P f ys x h.1)
  where
    go : (b : Bool) → f y ≡ b → (find f ys ≡ Some x → P x) → P x
    go true b r = let same : Some y ≡ Some x = sym (ap (λ z. cond z (Some y) (find f ys)) b) ∙ e in let yx : y ≡ x = cc in subst P yx h.0
    go false b r = r (sym (ap (λ z. cond z (Some y) (find f ys)) b) ∙ e)

-- The last that passes a test.
pub last_none : {A : Type 0} (f : A → Bool) (xs : List A) → Every (λ x. f x ≡ false) xs → last_of (filter f xs) ≡ None
last_none f [] h = refl
last_none f (x ∷ xs) h = ap (λ b. last_of (cond b (x ∷ filter f xs) (filter f xs))) h.0 ∙ last_none f xs h.1

last_push : {A : Type 0} (x s : A) (xs : List A) → last_of xs ≡ Some s → last_of (x ∷ xs) ≡ Some s
last_push x s xs e = cc

pub last_some : {A : Type 0} (f : A → Bool) (front : List A) (s : A) (back : List A) → f s ≡ true → Every (λ x. f x ≡ false) back → last_of (filter f (front ++ (s ∷ back))) ≡ Some s
last_some f [] s back e h = ap (λ b. last_of (cond b (s ∷ filter f back) (filter f back))) e ∙ last_one (last_none f back h)
  where
    last_one : last_of (filter f back) ≡ None → last_of (s ∷ filter f back) ≡ Some s
    last_one n = cc
last_some f (x ∷ xs) s back e h = let r = last_some f xs s back e h in
    by_test (λ b. last_of (cond b (x ∷ filter f (xs ++ (s ∷ back))) (filter f (xs ++ (s ∷ back)))) ≡ Some s) (f x) (λ _. last_push x s (filter f (xs ++ (s ∷ back))) r) (λ _. r)
