-- A thread that commits until no place is free, under any rule. Assumes nothing.
use Rattle.std.proofs.Common.{◌≡◌, ℕ, zero, suc, ◌+◌, ◌<◌, ◌≤◌, Bool, true, false, cond, leb, List, [], ◌∷◌, ◌++◌, map, length, replicate, Some, None, sym, refl, ap, ◌∙◌, subst, add-zero, add-one, arith}
use Rattle.std.proofs.lemmas.List.{length_push}
use Rattle.std.proofs.lemmas.Bool.{lt-leb, le-leb}
use Rattle.semantics.specs.declared.row.Operation.{Operation}
use Rattle.semantics.specs.declared.verdict.Limit.TheVariants as limit
use Rattle.semantics.specs.declared.verdict.Refusal.TheVariants.{Over}
use Rattle.semantics.specs.declared.verdict.Verdict.TheVariants.{Running}
use Rattle.semantics.specs.Calls.{Call, commit}
use Rattle.semantics.specs.Calls
use Rattle.semantics.specs.Classes.{operation}
use Rattle.semantics.specs.Effect.{Outcome}
use Rattle.semantics.specs.Laws.{Precedes}
use Rattle.semantics.specs.Limits.{places}
use Rattle.cases.specs.Records.{taken, refused, shown, taken_from}
use Rattle.semantics.specs.State.{State, unused}
use Rattle.semantics.specs.Step.{answered, step, answers}

-- One load more.
abbrev pub load : Call
load = commit 0 0 3 0

-- The first k loads, all outstanding.
abbrev pub loads : ℕ → List Operation
loads zero = []
loads (suc k) = loads k ++ (operation k 0 3 0 ∷ [])

-- A watch of one thread after k loads; its count of commits stands apart.
abbrev pub filled_as : ℕ → ℕ → State
filled_as n k = record { threads = record { clock = 0; commits = n; pending = loads k; epochs = [] } ∷ []; homes = replicate places unused; owed = []; waiting = []; begins = 0; ends = 0; judged = 0; dropped = 0; verdict = Running }

abbrev pub filled : ℕ → State
filled k = filled_as k k

pub loads_count : (k : ℕ) → length (loads k) ≡ k
loads_count zero = refl
loads_count (suc k) = length_push (loads k) (operation k 0 3 0) ∙ ap (λ n. n + 1) (loads_count k) ∙ add-one k

pub still_free : (k : ℕ) → k < 64 → leb 64 (length (loads k)) ≡ false
still_free k h = lt-leb 64 (length (loads k)) (subst (λ n. n < 64) (sym (loads_count k)) h)

pub none_free : (k : ℕ) → k ≡ 64 → leb 64 (length (loads k)) ≡ true
none_free k h = le-leb 64 (length (loads k)) (subst (λ n. 64 ≤ n) (sym (loads_count k)) (omega arith))

-- What a load is answered, by the two tests that do not compute.
abbrev pub by_tests : Precedes → ℕ → Bool → Bool → Outcome
by_tests B k a b = answered B (filled k) load (cond a (Some (Over limit.Outstanding)) (cond b (Some (Over limit.Commits)) None))

pub load_is_taken : (B : Precedes) (k : ℕ) → k < 64 → step B (filled k) load ≡ record { state = filled (suc k); answer = Calls.taken k }
load_is_taken B k h =
    let p : leb 64 (length (loads k)) ≡ false = still_free k h in
    let q : leb 1000000 k ≡ false = lt-leb 1000000 k (omega arith) in
    (λ i. by_tests B k (p i) (q i)) ∙ (λ i. record { state = filled_as (add-one k i) (suc k); answer = Calls.taken k })

pub load_is_refused : (B : Precedes) (k : ℕ) → k ≡ 64 → (step B (filled k) load).answer ≡ Calls.refused (Over limit.Outstanding)
load_is_refused B k h = λ i. (by_tests B k (none_free k h i) (leb 1000000 k)).answer

-- n more loads are taken, and then one is refused.
pub fills : (B : Precedes) (n k : ℕ) (s : State) → s ≡ filled k → k + n ≡ 64 → map shown (answers B s (replicate (suc n) load)) ≡ taken_from k n ++ (refused 12 1 ∷ [])
fills B zero k s e h =
    ap (λ s. shown (step B s load).answer ∷ []) e ∙ ap (λ a. shown a ∷ []) (load_is_refused B k (sym (add-zero k) ∙ h))
fills B (suc n) k s e h =
    let p : step B s load ≡ record { state = filled (suc k); answer = Calls.taken k } = ap (λ s. step B s load) e ∙ load_is_taken B k (omega arith) in
    let q : taken_from (suc k) n ≡ taken_from (k + 1) n = ap (λ m. taken_from m n) (sym (add-one k)) in
    ap (λ o. shown o.answer ∷ map shown (answers B o.state (replicate (suc n) load))) p
    ∙ ap (λ xs. taken k ∷ xs) (fills B n (suc k) (filled (suc k)) refl (omega arith) ∙ ap (λ xs. xs ++ (refused 12 1 ∷ [])) q)
