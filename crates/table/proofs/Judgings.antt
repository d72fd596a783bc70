-- Judging goes on. Assumes nothing.
use Rattle.std.proofs.Common.{◌≡◌, ℕ, ◌+◌, Bool, true, false, ltb, List, [], ◌∷◌, ◌++◌, drop, set, Some, None, Option, sym, refl, ap, ◌∙◌}
use Rattle.semantics.specs.declared.row.Ended.{Ended}
use Rattle.semantics.specs.declared.row.Home.{Home}
use Rattle.semantics.specs.declared.verdict.Conviction.{Conviction}
use Rattle.semantics.specs.declared.verdict.Refusal.{Refusal}
use Rattle.semantics.specs.declared.verdict.Verdict.TheVariants.{Running}
use Rattle.semantics.specs.Calls.{settle, taken, refused, convicted}
use Rattle.semantics.specs.Effect.{settled}
use Rattle.semantics.specs.Judging.{judge, judged_one, judged_home, stop_at, go_on, home_laws, safe}
use Rattle.semantics.specs.Laws.{Precedes}
use Rattle.semantics.specs.Lists.{first_of}
use Rattle.semantics.specs.Puts.{put_queues, convict}
use Rattle.semantics.specs.Refusals.{Test, stopped, stopped_by}
use Rattle.semantics.specs.State.{State, home_of}
use Rattle.semantics.specs.Step.{step, answered}
use Rattle.table.specs.Judgings.{judging}
use Rattle.table.specs.Told.{Meets}
use Rattle.table.proofs.Answers.{refuses}

-- What waits in the state is not looked at.
pub stale : (due : Ended → Bool) (es : List Ended) (s : State) (ws : List Ended) (k : ℕ) → judge due (put_queues s s.owed ws) es k ≡ judge due s es k
stale due [] s ws k = refl
stale due (e ∷ es) s ws k = by (due e) (home_laws (home_of s e.place) e) (stale due es (judged_one s e) ws (k + 1))
  where
    by : (b : Bool) (x : Option Conviction) → judge due (put_queues (judged_one s e) s.owed ws) es (k + 1) ≡ judge due (judged_one s e) es (k + 1)
        → go_on b x (stop_at (put_queues s s.owed ws) (e ∷ es) k) (judge due (put_queues (judged_one s e) s.owed ws) es (k + 1)) ≡ go_on b x (stop_at s (e ∷ es) k) (judge due (judged_one s e) es (k + 1))
    by true None ih = ih
    by true (Some c) ih = refl
    by false None ih = refl
    by false (Some c) ih = refl

-- Nothing waits.
pub at_end : (due : Ended → Bool) (s : State) (k : ℕ) → s.waiting ≡ [] → judge due s s.waiting k ≡ judging s k None
at_end due s k e = ap (λ es. judge due s es k) e ∙ ap (λ ws. judging (put_queues s s.owed ws) k None) (sym e)

-- The first is not due.
pub not_due : (due : Ended → Bool) (s : State) (k : ℕ) (e : Ended) (es : List Ended) → s.waiting ≡ e ∷ es → due e ≡ false → judge due s s.waiting k ≡ judging s k None
not_due due s k e es w d =
    ap (λ ys. judge due s ys k) w
    ∙ ap (λ b. go_on b (home_laws (home_of s e.place) e) (stop_at s (e ∷ es) k) (judge due (judged_one s e) es (k + 1))) d
    ∙ by (home_laws (home_of s e.place) e)
    ∙ ap (λ ws. judging (put_queues s s.owed ws) k None) (sym w)
  where
    by : (x : Option Conviction) → go_on false x (stop_at s (e ∷ es) k) (judge due (judged_one s e) es (k + 1)) ≡ stop_at s (e ∷ es) k None
    by None = refl
    by (Some c) = refl

-- The first breaks a law.
pub breaks : (due : Ended → Bool) (s : State) (k : ℕ) (e : Ended) (es : List Ended) (c : Conviction) → s.waiting ≡ e ∷ es → due e ≡ true → home_laws (home_of s e.place) e ≡ Some c → judge due s s.waiting k ≡ judging s k (Some c)
breaks due s k e es c w d l =
    ap (λ ys. judge due s ys k) w
    ∙ ap (λ b. go_on b (home_laws (home_of s e.place) e) (stop_at s (e ∷ es) k) (judge due (judged_one s e) es (k + 1))) d
    ∙ ap (λ x. go_on true x (stop_at s (e ∷ es) k) (judge due (judged_one s e) es (k + 1))) l
    ∙ ap (λ ws. judging (put_queues s s.owed ws) k (Some c)) (sym w)

-- The first is judged.
pub goes_on : (due : Ended → Bool) (s s' : State) (k : ℕ) (e : Ended) (es : List Ended) → s.waiting ≡ e ∷ es → due e ≡ true → home_laws (home_of s e.place) e ≡ None → s' ≡ put_queues (judged_one s e) s.owed es
    → judge due s' s'.waiting (k + 1) ≡ judge due s s.waiting k
goes_on due s s' k e es w d l h = sym (
    ap (λ ys. judge due s ys k) w
    ∙ ap (λ b. go_on b (home_laws (home_of s e.place) e) (stop_at s (e ∷ es) k) (judge due (judged_one s e) es (k + 1))) d
    ∙ ap (λ x. go_on true x (stop_at s (e ∷ es) k) (judge due (judged_one s e) es (k + 1))) l
    ∙ sym (stale due es (judged_one s e) es (k + 1))
    ∙ ap (λ (z : State). judge due z z.waiting (k + 1)) (sym h))

-- A home written and the first gone.
pub accepted : (s : State) (e : Ended) (hs : List Home) (ws : List Ended) → hs ≡ set s.homes e.place (judged_home (home_of s e.place) e) → ws ≡ drop 1 s.waiting
    → ◌≡◌ {A = State} (record { threads = s.threads; homes = hs; owed = s.owed; waiting = ws; begins = s.begins; ends = s.ends; judged = s.judged + 1; dropped = s.dropped; verdict = s.verdict }) (put_queues (judged_one s e) s.owed (drop 1 s.waiting))
accepted s e hs ws p q = λ i. record { threads = s.threads; homes = p i; owed = s.owed; waiting = q i; begins = s.begins; ends = s.ends; judged = s.judged + 1; dropped = s.dropped; verdict = s.verdict }

-- What settle answers.
settle_free : (B : Precedes) (s : State) (m : ℕ) → s.verdict ≡ Running → m ≡ safe s → step B s settle ≡ settled (judge (λ e. ltb e.from m) s s.waiting 0)
settle_free B s m v e = ap (λ x. answered B s settle (first_of (stopped_by x ++ []))) v ∙ ap (λ k. settled (judge (λ e. ltb e.from k) s s.waiting 0)) (sym e)

pub settles : (B : Precedes) (s s' : State) (m k : ℕ) → s.verdict ≡ Running → m ≡ safe s → judge (λ e. ltb e.from m) s s.waiting 0 ≡ judging s' k None → Meets B s settle (taken k) s'
settles B s s' m k v e j = sym (settle_free B s m v e ∙ ap settled j)

pub settle_convicts : (B : Precedes) (s s' : State) (m k : ℕ) (c : Conviction) → s.verdict ≡ Running → m ≡ safe s → judge (λ e. ltb e.from m) s s.waiting 0 ≡ judging s' k (Some c) → Meets B s settle (convicted c) (convict s' c)
settle_convicts B s s' m k c v e j = sym (settle_free B s m v e ∙ ap settled j)

pub settle_refuses : (B : Precedes) (s : State) (f : Refusal) → ((ts : List Test) → first_of (stopped s ++ ts) ≡ Some f) → Meets B s settle (refused f) s
settle_refuses B s f h = refuses B s settle f (h [])
