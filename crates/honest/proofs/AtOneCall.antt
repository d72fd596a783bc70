-- The promise at one call of a watch in the middle of its trace, and at its close. Assumes nothing.
use Rattle.std.proofs.Common.{◌≡◌, ℕ, List, [], ◌∷◌, ◌++◌, sym, refl, ap, ◌∙◌, subst}
use Rattle.semantics.specs.Calls.{Call, close, Answer}
use Rattle.semantics.specs.Calls
use Rattle.semantics.specs.Laws.{Precedes, Rule, by_rule}
use Rattle.semantics.specs.State.{State, made}
use Rattle.semantics.specs.Step.{step, answers}
use Rattle.semantics.specs.Trace.{Trace, Follows, new, met}
use Rattle.honest.specs.Honest.{Taken, TakenThenClean, calls_of, HonestCallIsTaken, HonestCloseIsClean}
use Rattle.honest.specs.Machine.{Every}
use Rattle.honest.proofs.HonestIsClean.{honest_is_clean}

-- The state after some calls.
abbrev after : Precedes → State → List Call → State
after B s [] = s
after B s (c ∷ cs) = after B (step B s c).state cs

after_append : (B : Precedes) (s : State) (xs : List Call) (c : Call) → after B s (xs ++ (c ∷ [])) ≡ (step B (after B s xs) c).state
after_append B s [] c = refl
after_append B s (x ∷ xs) c = after_append B (step B s x).state xs c

answers_append : (B : Precedes) (s : State) (xs ys : List Call) → answers B s (xs ++ ys) ≡ answers B s xs ++ answers B (after B s xs) ys
answers_append B s [] ys = refl
answers_append B s (x ∷ xs) ys = ap (λ z. (step B s x).answer ∷ z) (answers_append B (step B s x).state xs ys)

-- A watch holds what its calls leave.
holds_after : {R : Rule} {n : ℕ} {tr : Trace} {s : State} → Follows R n tr s → s ≡ after (by_rule R) (made n) (calls_of tr)
holds_after new = refl
holds_after {R} {n} (met {tr = tr} {s = s} f c) = ap (λ z. (step (by_rule R) z c).state) (holds_after f) ∙ sym (after_append (by_rule R) (made n) (calls_of tr) c)

-- The answers in a trace are those to its calls, in their order.
abbrev answers_of : Trace → List Answer
answers_of [] = []
answers_of (e ∷ tr) = answers_of tr ++ (e.answer ∷ [])

answers_are : {R : Rule} {n : ℕ} {tr : Trace} {s : State} → Follows R n tr s → answers (by_rule R) (made n) (calls_of tr) ≡ answers_of tr
answers_are new = refl
answers_are {R} {n} (met {tr = tr} {s = s} f c) =
    answers_append (by_rule R) (made n) (calls_of tr) (c ∷ [])
    ∙ ap (λ z. z ++ ((step (by_rule R) (after (by_rule R) (made n) (calls_of tr)) c).answer ∷ [])) (answers_are f)
    ∙ ap (λ z. answers_of tr ++ ((step (by_rule R) z c).answer ∷ [])) (sym (holds_after f))

taken_before : (xs : List Answer) (x y : Answer) (ys : List Answer) → TakenThenClean (xs ++ (x ∷ (y ∷ ys))) → Taken x
taken_before [] x y ys h = h.0
taken_before (z ∷ []) x y ys h = taken_before [] x y ys h.1
taken_before (z ∷ (w ∷ xs)) x y ys h = taken_before (w ∷ xs) x y ys h.1

clean_last : (xs : List Answer) (x : Answer) → TakenThenClean (xs ++ (x ∷ [])) → x ≡ Calls.clean
clean_last [] x h = h
clean_last (y ∷ []) x h = h.1
clean_last (y ∷ (z ∷ xs)) x h = clean_last (z ∷ xs) x h.1

taken_front : (xs : List Answer) (x : Answer) → TakenThenClean (xs ++ (x ∷ [])) → Every Taken xs
taken_front [] x h = tt
taken_front (y ∷ []) x h = (h.0, tt)
taken_front (y ∷ (z ∷ xs)) x h = (h.0, taken_front (z ∷ xs) x h.1)

every_last : (xs : List Answer) (x : Answer) → Every Taken (xs ++ (x ∷ [])) → Every Taken xs × Taken x
every_last [] x h = (tt, h.0)
every_last (y ∷ xs) x h = let r = every_last xs x h.1 in ((h.0, r.0), r.1)

every_answer : (tr : Trace) → Every Taken (answers_of tr) → Every (λ e. Taken e.answer) tr
every_answer [] h = tt
every_answer (e ∷ tr) h = let r = every_last (answers_of tr) e.answer h in (r.1, every_answer tr r.0)

pub honest_close : HonestCloseIsClean
honest_close R n tr s f pos h =
    let B = by_rule R in
    let cs = calls_of tr in
    let a = (step B (after B (made n) cs) close).answer in
    let all : TakenThenClean (answers_of tr ++ (a ∷ [])) =
    subst (λ z. TakenThenClean (z ++ (a ∷ []))) (answers_are f) (subst TakenThenClean (answers_append B (made n) cs (close ∷ [])) (honest_is_clean R n (cs ++ (close ∷ [])) pos h.0 h.1)) in
    (every_answer tr (taken_front (answers_of tr) a all), ap (λ z. (step B z close).answer) (holds_after f) ∙ clean_last (answers_of tr) a all)

pub honest_call : HonestCallIsTaken
honest_call R n tr s c f next later pos h =
    let B = by_rule R in
    let cs = calls_of tr in
    let m = after B (made n) cs in
    let t = taken_before (answers B (made n) cs) (step B m c).answer (step B (step B m c).state next).answer (answers B (step B (step B m c).state next).state later)
    (subst TakenThenClean (answers_append B (made n) cs (c ∷ (next ∷ later))) (honest_is_clean R n (cs ++ (c ∷ (next ∷ later))) pos h.0 h.1)) in
    (t.0, ap (λ z. (step B z c).answer) (holds_after f) ∙ t.1)
