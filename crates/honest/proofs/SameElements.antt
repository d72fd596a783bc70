-- Lists with the same elements, each as often, in any order. Assumes nothing.
use Rattle.std.proofs.Common.{◌≡◌, suc, Bool, true, false, cond, List, [], ◌∷◌, ◌++◌, length, sym, refl, ap, ◌∙◌, subst, map}
use Rattle.std.specs.List.{filter}
use Rattle.honest.specs.Machine.{Every}
use Rattle.honest.proofs.Lists.{by_test}

-- x stands in the first list, and the second is what is left without it.
pub data Pick {A : Type 0} (x : A) : List A → List A → Type 0 where
  here : {xs : List A} → Pick x (x ∷ xs) xs
  there : {y : A} {xs ys : List A} → Pick x xs ys → Pick x (y ∷ xs) (y ∷ ys)

-- The same elements, each as often, in any order.
pub data Same {A : Type 0} : List A → List A → Type 0 where
  none : Same [] []
  more : {x : A} {xs ys zs : List A} → Pick x ys zs → Same xs zs → Same (x ∷ xs) ys

pub record Twice {A : Type 0} (x y : A) (xs zs : List A) : Type 0 where
  pub mid : List A
  pub first : Pick y xs mid
  pub second : Pick x mid zs

pick_pick : {A : Type 0} {x y : A} {xs ys zs : List A} → Pick x xs ys → Pick y ys zs → Twice x y xs zs
pick_pick here q = record { mid = _; first = there q; second = here }
pick_pick (there p) here = record { mid = _; first = here; second = p }
pick_pick (there p) (there q) = let r = pick_pick p q in record { mid = _; first = there r.first; second = there r.second }

pub record Taken {A : Type 0} (x : A) (xs us : List A) : Type 0 where
  pub rest : List A
  pub out : Pick x us rest
  pub same : Same xs rest

same_take : {A : Type 0} {x : A} {xs xs' us : List A} → Pick x xs xs' → Same xs us → Taken x xs' us
same_take here (more p s) = record { rest = _; out = p; same = s }
same_take (there q) (more p s) = let r = same_take q s in let c = pick_pick p r.out in record { rest = _; out = c.first; same = more c.second r.same }

same_put : {A : Type 0} {x : A} {xs xs' us us' : List A} → Pick x xs xs' → Pick x us us' → Same xs' us' → Same xs us
same_put here p s = more p s
same_put (there q) p (more p' s) = let c = pick_pick p p' in more c.first (same_put q c.second s)

-- x changes its place in the first list.
pub same_move : {A : Type 0} {x : A} {xs ys zs us : List A} → Pick x xs zs → Pick x ys zs → Same xs us → Same ys us
same_move p q s = let r = same_take p s in same_put q r.out r.same

pub every_pick : {A : Type 0} (P : A → Type 0) {x : A} {xs ys : List A} → Pick x xs ys → P x → Every P ys → Every P xs
every_pick P here h e = (h, e)
every_pick P (there p) h e = (e.0, every_pick P p h e.1)

pub every_same : {A : Type 0} (P : A → Type 0) {xs ys : List A} → Same xs ys → Every P xs → Every P ys
every_same P none e = tt
every_same P (more p s) e = every_pick P p e.0 (every_same P s e.1)

pub pick_left : {A : Type 0} {x : A} {xs ys : List A} (zs : List A) → Pick x xs ys → Pick x (xs ++ zs) (ys ++ zs)
pick_left zs here = here
pick_left zs (there p) = there (pick_left zs p)

pub pick_right : {A : Type 0} {x : A} {xs ys : List A} (zs : List A) → Pick x xs ys → Pick x (zs ++ xs) (zs ++ ys)
pick_right [] p = p
pick_right (z ∷ zs) p = there (pick_right zs p)

pub pick_map : {A B : Type 0} (f : A → B) {x : A} {xs ys : List A} → Pick x xs ys → Pick (f x) (map f xs) (map f ys)
pick_map f here = here
pick_map f (there p) = there (pick_map f p)

pub pick_length : {A : Type 0} {x : A} {xs ys : List A} → Pick x xs ys → length xs ≡ suc (length ys)
pick_length here = refl
pick_length (there p) = ap suc (pick_length p)

pub same_length : {A : Type 0} {xs ys : List A} → Same xs ys → length xs ≡ length ys
same_length none = refl
same_length (more p s) = ap suc (same_length s) ∙ sym (pick_length p)

-- A filter keeps what is the same the same.
pick_filter : {A : Type 0} (f : A → Bool) {x : A} {xs ys : List A} → f x ≡ true → Pick x xs ys → Pick x (filter f xs) (filter f ys)
pick_filter f {x} e (here {xs = xs}) = subst (λ b. Pick x (cond b (x ∷ filter f xs) (filter f xs)) (filter f xs)) (sym e) here
pick_filter f {x} e (there {y = y} {xs = xs} {ys = ys} p) = let r = pick_filter f e p in
    by_test (λ b. Pick x (cond b (y ∷ filter f xs) (filter f xs)) (cond b (y ∷ filter f ys) (filter f ys))) (f y) (λ b. there r) (λ b. r)

pick_lost : {A : Type 0} (f : A → Bool) {x : A} {xs ys : List A} → f x ≡ false → Pick x xs ys → filter f xs ≡ filter f ys
pick_lost f {x} e (here {xs = xs}) = ap (λ b. cond b (x ∷ filter f xs) (filter f xs)) e
pick_lost f {x} e (there {y = y} p) = ap (λ l. cond (f y) (y ∷ l) l) (pick_lost f e p)

pub same_filter : {A : Type 0} (f : A → Bool) {xs ys : List A} → Same xs ys → Same (filter f xs) (filter f ys)
same_filter f none = none
same_filter f (more {x = x} {xs = xs} {ys = ys} p s) = let r = same_filter f s in
    by_test (λ b. Same (cond b (x ∷ filter f xs) (filter f xs)) (filter f ys)) (f x) (λ b. more (pick_filter f b p) r) (λ b. subst (Same (filter f xs)) (sym (pick_lost f b p)) r)
