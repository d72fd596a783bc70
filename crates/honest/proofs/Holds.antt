-- Functions changed at a point, and who holds a place to write it. Assumes nothing.
use Rattle.std.proofs.Common.{◌≡◌, ℕ, true, false, eqb, Some, None, Option, sym, refl, arith}
use Rattle.std.proofs.lemmas.Bool.{eq-eqb, ne_eqb, and_right}
use Rattle.std.proofs.lemmas.Bool.Decides.{nat_tests}
use Rattle.honest.specs.Machine.{Hold, put, put_hold, taken_at, used_at}

pub put_at : {A : Type 0} (f : ℕ → A) (i j : ℕ) (a : A) → i ≡ j → put f i a j ≡ a
put_at f i j a e = let b = eq-eqb j i (sym e) in grind arith

pub put_other : {A : Type 0} (f : ℕ → A) (i j : ℕ) (a : A) → (j ≡ i → ⊥) → put f i a j ≡ f j
put_other f i j a n = let e = ne_eqb j i n in grind arith

pub option_none : (x : Option Hold) → ((k : Hold) → x ≡ Some k → ⊥) → x ≡ None
option_none None h = refl
option_none (Some k) h = absurd (h k refl)

pub put_hold_at : (f : ℕ → ℕ → Option Hold) (u q p : ℕ) (x : Option Hold) → p ≡ q → put_hold f u q x u p ≡ x
put_hold_at f u q p x e = let a = eq-eqb p q e in let b = eq-eqb u u refl in grind arith

pub put_hold_far : (f : ℕ → ℕ → Option Hold) (u q t p : ℕ) (x : Option Hold) → (p ≡ q → ⊥) → put_hold f u q x t p ≡ f t p
put_hold_far f u q t p x n = let a = ne_eqb p q n in grind arith

pub put_hold_else : (f : ℕ → ℕ → Option Hold) (u q t p : ℕ) (x : Option Hold) → (t ≡ u → ⊥) → put_hold f u q x t p ≡ f t p
put_hold_else f u q t p x n = let a = ne_eqb t u n in let b = and_right (eqb p q) (eqb t u) a in grind arith

-- Who holds a place to write it holds it alone.
abbrev pub Alone : (ℕ → ℕ → Option Hold) → Type 0
Alone f = (t u p : ℕ) (h k : Hold) → f t p ≡ Some h → h.writes ≡ true → f u p ≡ Some k → t ≡ u

pub alone_touch : (f : ℕ → ℕ → Option Hold) (t p τ : ℕ) (h : Hold) → f t p ≡ Some h → Alone f → Alone (put_hold f t p (Some (used_at h τ)))
alone_touch f t p τ h e a u v q i k x y z = grind (arith, nat_tests, a u v q i k, a u v q h k, a u v q i h, a u v q h h)

pub alone_give : (f : ℕ → ℕ → Option Hold) (t p : ℕ) → Alone f → Alone (put_hold f t p None)
alone_give f t p a u v q i k x y z = grind (arith, nat_tests, a u v q i k)

pub alone_read : (f : ℕ → ℕ → Option Hold) (t p τ : ℕ) → ((u : ℕ) (h : Hold) → f u p ≡ Some h → h.writes ≡ false) → Alone f → Alone (put_hold f t p (Some (taken_at false τ)))
alone_read f t p τ un a u v q i k x y z = grind (arith, nat_tests, a u v q i k, un u i)

pub alone_write : (f : ℕ → ℕ → Option Hold) (t p τ : ℕ) → ((u : ℕ) → f u p ≡ None) → Alone f → Alone (put_hold f t p (Some (taken_at true τ)))
alone_write f t p τ fr a u v q i k x y z = grind (arith, nat_tests, a u v q i k, fr u, fr v)
