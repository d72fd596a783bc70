-- A call is refused, or has its effect after every test of a refusal has failed. Assumes nothing.
use Rattle.std.proofs.Common.{◌≡◌, ℕ, Bool, true, false, cond, not, List, [], ◌∷◌, Some, None, Option, sym, refl, ap, ◌∙◌, true≢false, arith}
use Rattle.std.specs.Option.{is_some}
use Rattle.semantics.specs.declared.verdict.Refusal.{Refusal}
use Rattle.semantics.specs.declared.verdict.Verdict.{Verdict}
use Rattle.semantics.specs.declared.verdict.Verdict.TheVariants.{Running, Clean, Guilty}
use Rattle.semantics.specs.Calls.{Call, refused}
use Rattle.semantics.specs.Effect.{Outcome, effect}
use Rattle.semantics.specs.Laws.{Precedes}
use Rattle.semantics.specs.Lists.{first_of}
use Rattle.semantics.specs.Refusals.{Test, refusals, checks, halted, stopped, stopped_by}
use Rattle.semantics.specs.State.{State}
use Rattle.semantics.specs.Step.{answered, step}
use Rattle.accounts.specs.Lists.{All}
use Rattle.accounts.proofs.Counting.{all_left, all_right}

-- no test of a refusal holds
abbrev pub Passes : State → Call → Type 0
Passes s c = first_of (refusals s c) ≡ None

pub step_by : (B : Precedes) (s : State) (c : Call) (P : Outcome → Type 0)
    → ((r : Refusal) → P (record { state = s; answer = refused r })) → (Passes s c → P (effect B s c)) → P (step B s c)
step_by B s c P out go = by (first_of (refusals s c)) refl
  where
    by : (o : Option Refusal) → first_of (refusals s c) ≡ o → P (answered B s c o)
    by None e = go e
    by (Some r) e = out r

passed : (ts : List Test) → first_of ts ≡ None → All (λ t. t.0 ≡ false) ts
passed [] h = tt
passed (t ∷ ts) h = by t.0 refl (passed ts)
  where
    by : (b : Bool) → t.0 ≡ b → (first_of ts ≡ None → All (λ t. t.0 ≡ false) ts) → (t.0 ≡ false) × All (λ t. t.0 ≡ false) ts
    by true e i = let k : ◌≡◌ {A = Option Refusal} (Some t.1) None = sym (ap (λ b. cond b (Some t.1) (first_of ts)) e) ∙ h in let z : ◌≡◌ {A = ℕ} 0 1 = cc in absurd (omega arith)
    by false e i = (e, i (sym (ap (λ b. cond b (Some t.1) (first_of ts)) e) ∙ h))

-- each test of the call's own has failed
pub checked : (s : State) (c : Call) → Passes s c → All (λ t. t.0 ≡ false) (checks s c)
checked s c h = all_right (λ t. t.0 ≡ false) (halted s c) (checks s c) (passed (refusals s c) h)

-- and, but for a drop, the watch runs
pub not_halted : (s : State) (c : Call) → Passes s c → All (λ t. t.0 ≡ false) (halted s c)
not_halted s c h = all_left (λ t. t.0 ≡ false) (halted s c) (checks s c) (passed (refusals s c) h)

pub runs : (s : State) → All (λ t. t.0 ≡ false) (stopped s) → s.verdict ≡ Running
runs s h = by s.verdict refl h
  where
    by : (v : Verdict) → s.verdict ≡ v → All (λ t. t.0 ≡ false) (stopped_by v) → s.verdict ≡ Running
    by Running e k = e
    by Clean e k = absurd (true≢false k.0)
    by (Guilty c) e k = absurd (true≢false k.0)

pub some_of : {A : Type 0} (o : Option A) → not (is_some o) ≡ false → (x : A) × (o ≡ Some x)
some_of None e = absurd (true≢false e)
some_of (Some x) e = (x, refl)

pub none_of : {A : Type 0} (o : Option A) → is_some o ≡ false → o ≡ None
none_of None e = refl
none_of (Some x) e = absurd (true≢false e)

pub none_some : {A B : Type 0} (o : Option A) (x : A) → o ≡ None → o ≡ Some x → B
none_some o x h k = let z : ◌≡◌ {A = ℕ} 0 1 = (let g = sym h ∙ k in cc) in absurd (omega arith)
