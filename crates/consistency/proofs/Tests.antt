-- What follows where every test failed, or nothing was found. Assumes nothing.
use Rattle.std.proofs.Common.{◌≡◌, ℕ, Bool, true, false, cond, List, [], ◌∷◌, Some, None, Option, refl, arith}
use Rattle.semantics.specs.declared.verdict.Refusal.{Refusal}
use Rattle.semantics.specs.Lists.{first_of, first_some}
use Rattle.semantics.specs.Refusals.{Test}

pub never : {A : Type 0} {x : A} → ◌≡◌ {A = Option A} (Some x) None → ⊥
never e = let z : ◌≡◌ {A = ℕ} 0 1 = cc in omega arith

pub first_some_none : {A : Type 0} (o : Option A) (os : List (Option A)) → first_some (o ∷ os) ≡ None → (o ≡ None) × (first_some os ≡ None)
first_some_none None os e = (refl, e)
first_some_none (Some x) os e = absurd (never e)

pub cond_none : {A : Type 0} (b : Bool) (x : A) → ◌≡◌ {A = Option A} (cond b None (Some x)) None → b ≡ true
cond_none true x e = refl
cond_none false x e = absurd (never e)

pub cond_none_not : {A : Type 0} (b : Bool) (x : A) → ◌≡◌ {A = Option A} (cond b (Some x) None) None → b ≡ false
cond_none_not true x e = absurd (never e)
cond_none_not false x e = refl

-- Every test of a refusal failed.
abbrev pub Passes : List Test → Type 0
Passes [] = Unit {0}
Passes (t ∷ ts) = (t.0 ≡ false) × Passes ts

pub passes : (ts : List Test) → first_of ts ≡ None → Passes ts
passes [] e = tt
passes (t ∷ ts) e = by t.0 refl e (passes ts)
  where
    by : (b : Bool) → t.0 ≡ b → ◌≡◌ {A = Option Refusal} (cond b (Some t.1) (first_of ts)) None → (first_of ts ≡ None → Passes ts) → (t.0 ≡ false) × Passes ts
    by true q e ih = absurd (never e)
    by false q e ih = (q, ih e)
