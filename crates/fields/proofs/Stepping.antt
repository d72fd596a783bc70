-- What is known of a step whose successors answered. Assumes nothing.
use Rattle.std.proofs.Common.{◌≡◌, ℕ, Some, None, Ok, Err, Option, Result, refl, arith}
use Rattle.std.specs.Option.{ok_or}
use Rattle.fields.specs.Steps.{◌given◌, ◌then◌}

-- a step found something if its successor did
pub given_some : {A B : Type 0} (x : Option A) (f : A → Option B) (b : B) → x given f ≡ Some b → (a : A) × ((x ≡ Some a) × (f a ≡ Some b))
given_some (Some a) f b e = (a, (refl, e))
given_some None f b e = let z : ◌≡◌ {A = ℕ} 0 1 = cc in absurd (omega arith)

-- a step found no fault if its successor found none
pub then_ok : {A B E : Type 0} (x : Result A E) (f : A → Result B E) (b : B) → x then f ≡ Ok b → (a : A) × ((x ≡ Ok a) × (f a ≡ Ok b))
then_ok (Ok a) f b e = (a, (refl, e))
then_ok (Err d) f b e = let z : ◌≡◌ {A = ℕ} 0 1 = cc in absurd (omega arith)

-- what was found where nothing would have been a fault
pub some_from_ok_or : {A E : Type 0} (x : Option A) (d : E) (a : A) → ok_or x d ≡ Ok a → x ≡ Some a
some_from_ok_or (Some b) d a e = let same : b ≡ a = cc in λ i. Some (same i)
some_from_ok_or None d a e = let z : ◌≡◌ {A = ℕ} 0 1 = cc in absurd (omega arith)
