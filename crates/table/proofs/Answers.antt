-- How a call is answered: refused, or as its effect says. Assumes nothing.
use Rattle.std.proofs.Common.{◌≡◌, ℕ, Bool, true, false, cond, is_some, List, [], ◌∷◌, ◌++◌, Some, None, sym, refl, ap, ◌∙◌, true≢false}
use Rattle.semantics.specs.declared.verdict.Refusal.{Refusal}
use Rattle.semantics.specs.declared.verdict.Verdict.TheVariants.{Running}
use Rattle.semantics.specs.Calls.{Call, Answer, refused}
use Rattle.semantics.specs.Effect.{effect}
use Rattle.semantics.specs.Laws.{Precedes}
use Rattle.semantics.specs.Lists.{first_of}
use Rattle.semantics.specs.Refusals.{Test, stopped, stopped_by, no_thread, refusals}
use Rattle.semantics.specs.State.{State, Thread, thread_of}
use Rattle.semantics.specs.Step.{step, answered}
use Rattle.table.specs.Checks.{Known}
use Rattle.table.specs.Told.{Meets}

-- A refused call.
pub refuses : (B : Precedes) (s : State) (c : Call) (f : Refusal) → first_of (refusals s c) ≡ Some f → Meets B s c (refused f) s
refuses B s c f e = sym (ap (answered B s c) e)

-- A call that is not refused.
pub takes : (B : Precedes) (s : State) (c : Call) → first_of (refusals s c) ≡ None → step B s c ≡ effect B s c
takes B s c e = ap (answered B s c) e

-- The same answer, and a state that is the same.
pub leaves : (B : Precedes) (s : State) (c : Call) (a b : Answer) (x y : State) → a ≡ b → x ≡ y → Meets B s c b y → Meets B s c a x
leaves B s c a b x y p q m = (λ i. record { state = q i; answer = p i }) ∙ m

-- A running watch has not stopped.
pub goes : (s : State) (ts : List Test) → s.verdict ≡ Running → first_of (stopped s ++ ts) ≡ first_of ts
goes s ts e = ap (λ v. first_of (stopped_by v ++ ts)) e

-- A thread stands in the row that was looked up.
pub row_at : (s : State) (t row : ℕ) → Known s t row → thread_of s t ≡ thread_of s row
row_at s t row k = ap (thread_of s) (sym k.is)

-- The tests that a thread's calls share are passed: those of its row are left.
pub tested : (s : State) (t row : ℕ) (tests : Thread → List Test) → Known s t row → first_of (stopped s ++ (no_thread s t ∷ tests (thread_of s t))) ≡ first_of (tests (thread_of s row))
tested s t row tests k = k.skips (tests (thread_of s t)) ∙ ap (λ w. first_of (tests w)) (row_at s t row k)

-- Tests after others: where none of those holds, and where one does.
pub first_later : (xs ys : List Test) → first_of xs ≡ None → first_of (xs ++ ys) ≡ first_of ys
first_later [] ys e = refl
first_later (t ∷ ts) ys e = by t.0 e (first_later ts ys)
  where
    by : (b : Bool) → cond b (Some t.1) (first_of ts) ≡ None → (first_of ts ≡ None → first_of (ts ++ ys) ≡ first_of ys) → cond b (Some t.1) (first_of (ts ++ ys)) ≡ first_of ys
    by true e ih = absurd (true≢false (ap is_some e))
    by false e ih = ih e

pub first_earlier : (xs ys : List Test) (f : Refusal) → first_of xs ≡ Some f → first_of (xs ++ ys) ≡ Some f
first_earlier [] ys f e = absurd (true≢false (sym (ap is_some e)))
first_earlier (t ∷ ts) ys f e = by t.0 e (first_earlier ts ys f)
  where
    by : (b : Bool) → cond b (Some t.1) (first_of ts) ≡ Some f → (first_of ts ≡ Some f → first_of (ts ++ ys) ≡ Some f) → cond b (Some t.1) (first_of (ts ++ ys)) ≡ Some f
    by true e ih = e
    by false e ih = ih e
