-- Lists whose numbers rise: one of a number, and what stands before and after it. Assumes nothing.
use Rattle.std.proofs.Common.{◌≡◌, ℕ, suc, ◌+◌, ◌<◌, ◌≤◌, Bool, cond, not, eqb, ltb, ◌⊎◌, List, [], ◌∷◌, ◌++◌, Some, sym, refl, ap, ◌∙◌, subst, inl, inr, arith}
use Rattle.std.proofs.lemmas.Bool.{eq-eqb, ne_eqb, le-ltb, lt-ltb, cases_eq}
use Rattle.std.specs.List.{find, filter}
use Rattle.honest.proofs.Lists.{by_test, none≢some}
use Rattle.honest.proofs.SameElements.{Pick, here, there}

-- The numbers rise, from lo on and below hi.
abbrev pub Rising : {A : Type 0} → (A → ℕ) → ℕ → List A → ℕ → Type 0
Rising f lo [] hi = lo ≤ hi
Rising f lo (x ∷ xs) hi = (lo ≤ f x) × Rising f (suc (f x)) xs hi

rising_lower : {A : Type 0} (f : A → ℕ) (lo lo' : ℕ) (xs : List A) (hi : ℕ) → lo' ≤ lo → Rising f lo xs hi → Rising f lo' xs hi
rising_lower f lo lo' [] hi le r = omega arith
rising_lower f lo lo' (x ∷ xs) hi le r = (omega arith, r.1)

pub rising_push : {A : Type 0} (f : A → ℕ) (lo : ℕ) (xs : List A) (hi : ℕ) (x : A) → f x ≡ hi → Rising f lo xs hi → Rising f lo (xs ++ (x ∷ [])) (hi + 1)
rising_push f lo [] hi x e r = (omega arith, omega arith)
rising_push f lo (y ∷ ys) hi x e r = (r.0, rising_push f (suc (f y)) ys hi x e r.1)

pub rising_filter : {A : Type 0} (f : A → ℕ) (g : A → Bool) (lo : ℕ) (xs : List A) (hi : ℕ) → Rising f lo xs hi → Rising f lo (filter g xs) hi
rising_filter f g lo [] hi r = r
rising_filter f g lo (x ∷ xs) hi r = let i = rising_filter f g (suc (f x)) xs hi r.1 in
    by_test (λ b. Rising f lo (cond b (x ∷ filter g xs) (filter g xs)) hi) (g x) (λ _. (r.0, i)) (λ _. rising_lower f (suc (f x)) lo (filter g xs) hi (let l = r.0 in omega arith) i)

rising_all : {A : Type 0} (f : A → ℕ) (k lo : ℕ) (xs : List A) (hi : ℕ) → k < lo → Rising f lo xs hi → filter (λ x. not (eqb (f x) k)) xs ≡ xs
rising_all f k lo [] hi l r = refl
rising_all f k lo (x ∷ xs) hi l r =
    let l' = r.0 in
    let i = rising_all f k (suc (f x)) xs hi (omega arith) r.1 in
    let n = ne_eqb (f x) k (omega arith) in
    ap (λ b. cond (not b) (x ∷ filter (λ x. not (eqb (f x) k)) xs) (filter (λ x. not (eqb (f x) k)) xs)) n ∙ ap (λ z. x ∷ z) i

pub rising_pick : {A : Type 0} (f : A → ℕ) (k lo : ℕ) (xs : List A) (hi : ℕ) (e : A) → Rising f lo xs hi → find (λ x. eqb (f x) k) xs ≡ Some e → Pick e xs (filter (λ x. not (eqb (f x) k)) xs)
rising_pick f k lo [] hi e r fd = absurd (none≢some fd)
rising_pick {A} f k lo (x ∷ xs) hi e r fd = go (cases_eq (f x) k) (rising_pick f k (suc (f x)) xs hi e r.1)
  where
    rest : List A
    rest = filter (λ x. not (eqb (f x) k)) xs

    go : (f x ≡ k) ⊎ (f x ≡ k → ⊥) → (find (λ x. eqb (f x) k) xs ≡ Some e → Pick e xs rest) → Pick e (x ∷ xs) (cond (not (eqb (f x) k)) (x ∷ rest) rest)
    go (inl is) ih =
        let b = eq-eqb (f x) k is in
        let same : Some x ≡ Some e = sym (ap (λ z. cond z (Some x) (find (λ x. eqb (f x) k) xs)) b) ∙ fd in
        let xe : x ≡ e = cc in
        subst (λ z. Pick e (x ∷ xs) (cond (not z) (x ∷ rest) rest)) (sym b) (subst (λ z. Pick e (x ∷ xs) z) (sym (rising_all f k (suc (f x)) xs hi (omega arith) r.1)) (subst (λ z. Pick e (z ∷ xs) xs) (sym xe) here))
    go (inr n) ih =
        let b = ne_eqb (f x) k n in
        subst (λ z. Pick e (x ∷ xs) (cond (not z) (x ∷ rest) rest)) (sym b) (there (ih (sym (ap (λ z. cond z (Some x) (find (λ x. eqb (f x) k) xs)) b) ∙ fd)))

-- What stands before, at and after one of them.
rising_mid : {A : Type 0} (f : A → ℕ) (lo : ℕ) (xs : List A) (o : A) (back : List A) (hi : ℕ) → Rising f lo (xs ++ (o ∷ back)) hi → lo ≤ f o
rising_mid f lo [] o back hi r = r.0
rising_mid f lo (x ∷ xs) o back hi r = let m = rising_mid f (suc (f x)) xs o back hi r.1 in let l = r.0 in omega arith

rising_none : {A : Type 0} (f : A → ℕ) (k lo : ℕ) (xs : List A) (hi : ℕ) → k ≤ lo → Rising f lo xs hi → filter (λ x. ltb (f x) k) xs ≡ []
rising_none f k lo [] hi l r = refl
rising_none f k lo (x ∷ xs) hi l r =
    let l' = r.0 in
    let i = rising_none f k (suc (f x)) xs hi (omega arith) r.1 in
    ap (λ b. cond b (x ∷ filter (λ x. ltb (f x) k) xs) (filter (λ x. ltb (f x) k) xs)) (le-ltb (f x) k (omega arith)) ∙ i

pub split_before : {A : Type 0} (f : A → ℕ) (lo : ℕ) (front : List A) (o : A) (back : List A) (hi : ℕ) → Rising f lo (front ++ (o ∷ back)) hi → filter (λ x. ltb (f x) (f o)) (front ++ (o ∷ back)) ≡ front
split_before f lo [] o back hi r =
    ap (λ b. cond b (o ∷ filter (λ x. ltb (f x) (f o)) back) (filter (λ x. ltb (f x) (f o)) back)) (le-ltb (f o) (f o) (omega arith)) ∙ rising_none f (f o) (suc (f o)) back hi (omega arith) r.1
split_before f lo (x ∷ xs) o back hi r =
    let m = rising_mid f (suc (f x)) xs o back hi r.1 in
    let i = split_before f (suc (f x)) xs o back hi r.1 in
    ap (λ b. cond b (x ∷ filter (λ x. ltb (f x) (f o)) (xs ++ (o ∷ back))) (filter (λ x. ltb (f x) (f o)) (xs ++ (o ∷ back)))) (lt-ltb (f x) (f o) m) ∙ ap (λ z. x ∷ z) i

pub split_find : {A : Type 0} (f : A → ℕ) (lo : ℕ) (front : List A) (o : A) (back : List A) (hi : ℕ) → Rising f lo (front ++ (o ∷ back)) hi → find (λ x. eqb (f x) (f o)) (front ++ (o ∷ back)) ≡ Some o
split_find f lo [] o back hi r = ap (λ b. cond b (Some o) (find (λ x. eqb (f x) (f o)) back)) (eq-eqb (f o) (f o) refl)
split_find f lo (x ∷ xs) o back hi r =
    let m = rising_mid f (suc (f x)) xs o back hi r.1 in
    ap (λ b. cond b (Some x) (find (λ x. eqb (f x) (f o)) (xs ++ (o ∷ back)))) (ne_eqb (f x) (f o) (omega arith)) ∙ split_find f (suc (f x)) xs o back hi r.1

pub split_without : {A : Type 0} (f : A → ℕ) (lo : ℕ) (front : List A) (o : A) (back : List A) (hi : ℕ) → Rising f lo (front ++ (o ∷ back)) hi → filter (λ x. not (eqb (f x) (f o))) (front ++ (o ∷ back)) ≡ front ++ back
split_without f lo [] o back hi r =
    ap (λ b. cond (not b) (o ∷ filter (λ x. not (eqb (f x) (f o))) back) (filter (λ x. not (eqb (f x) (f o))) back)) (eq-eqb (f o) (f o) refl) ∙ rising_all f (f o) (suc (f o)) back hi (omega arith) r.1
split_without f lo (x ∷ xs) o back hi r =
    let m = rising_mid f (suc (f x)) xs o back hi r.1 in
    ap (λ b. cond (not b) (x ∷ filter (λ x. not (eqb (f x) (f o))) (xs ++ (o ∷ back))) (filter (λ x. not (eqb (f x) (f o))) (xs ++ (o ∷ back)))) (ne_eqb (f x) (f o) (omega arith))
    ∙ ap (λ z. x ∷ z) (split_without f (suc (f x)) xs o back hi r.1)
