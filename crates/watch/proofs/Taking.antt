-- What a call of the table says of the watch. Assumes nothing.
use Rattle.std.proofs.Common.{◌≡◌, ℕ, ◌∷◌, sym, refl, ap, ◌∙◌, subst, arith}
use Rattle.semantics.specs.Asking.{WithinLeeway, free_places}
use Rattle.semantics.specs.Calls.{Call, Answer}
use Rattle.semantics.specs.Effect.{Outcome}
use Rattle.semantics.specs.Laws.{Precedes, Rule, by_rule}
use Rattle.semantics.specs.State.{State, Thread}
use Rattle.semantics.specs.Trace.{Trace, Follows, met}
use Rattle.consistency.proofs.Refused.{refused_changes_nothing}
use Rattle.table.specs.Told.{Meets}
use Rattle.watch.specs.Took.{Held, Took, event}

-- The trace with the call and its answer.
pub grows : (R : Rule) (s : State) (c : Call) (a : Answer) (s' : State) → Meets (by_rule R) s c a s' → (n : ℕ) (tr : Trace) → Follows R n tr s → Follows R n (event c a ∷ tr) s'
grows R s c a s' m n tr f = subst (λ (o : Outcome). Follows R n (event c o.answer ∷ tr) o.state) (sym m) (met f c)

-- Cited once for each call, since the search does not find the rule of the step.
pub took : {X : Type 0} (orders : X → Rule) (before now : Held X) (c : Call) (a : Answer) (s' : State) → before ≡ now → Meets (by_rule (orders before.rule)) before.state c a s' → Took orders now c a (record { rule = before.rule; state = s' })
took orders before now c a s' h m =
    let R = orders before.rule in
    let p = ap (λ (o : Outcome). o.answer) m in
    let q = ap (λ (o : Outcome). o.state) m in
    subst (λ now. Took orders now c a (record { rule = before.rule; state = s' })) h (record {
      answer = p;
      state = q;
      same = refl;
      kept = λ r e. q ∙ refused_changes_nothing (by_rule R) before.state c r (sym p ∙ e);
      history = grows R before.state c a s' m;
    })

-- The same of a call that the table meets so under every rule.
pub took_always : {X : Type 0} (orders : X → Rule) (before now : Held X) (c : Call) (a : Answer) (s' : State) → before ≡ now → ((B : Precedes) → Meets B before.state c a s') → Took orders now c a (record { rule = before.rule; state = s' })
took_always orders before now c a s' h m = took orders before now c a s' h (m (by_rule (orders before.rule)))

-- An exact answer lies within the leeway.
pub within_leeway : (w : Thread) (k : ℕ) → k ≡ free_places w → WithinLeeway w k
within_leeway w k e = record { not_above = omega arith; none_only_if_none = λ z. sym e ∙ z }
