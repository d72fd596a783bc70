-- An event is its kind and its row, and no other row gives it. Assumes nothing.
use Rattle.std.proofs.Common.{◌≡◌, ℕ, true, eqb, Some, None, sym, refl, ap, ◌∙◌, subst, inl, inr, arith}
use Rattle.std.proofs.lemmas.Bool.{and_parts, and_from, eqb-true, eq-eqb, cond-true, cond-false, cases_Bool}
use Rattle.event.specs.declared.event.Event.{Event}
use Rattle.event.specs.declared.event.Event.TheVariants as events
use Rattle.event.specs.declared.event.EventKind.{EventKind}
use Rattle.event.specs.declared.event.EventKind.TheVariants as kinds
use Rattle.event.specs.declared.event.Row.{Row}
use Rattle.event.specs.Events.{kind_of, row_of, taking, same_row, event_of}

-- two rows agree in each number
pub record Agree (r s : Row) : Type 0 where
  pub thread : r.thread ≡ s.thread
  pub what : r.what ≡ s.what
  pub place : r.place ≡ s.place
  pub value : r.value ≡ s.value
  pub time : r.time ≡ s.time

pub agree_from_same : (r s : Row) → same_row r s ≡ true → Agree r s
agree_from_same r s e =
    let a = and_parts (eqb r.thread s.thread) _ e in
    let b = and_parts (eqb r.what s.what) _ a.1 in
    let c = and_parts (eqb r.place s.place) _ b.1 in
    let d = and_parts (eqb r.value s.value) _ c.1 in
    record { thread = eqb-true _ _ a.0; what = eqb-true _ _ b.0; place = eqb-true _ _ c.0; value = eqb-true _ _ d.0; time = eqb-true _ _ d.1 }

row_from_agree : (r s : Row) → Agree r s → r ≡ s
row_from_agree r s h = λ i. record { thread = h.thread i; what = h.what i; place = h.place i; value = h.value i; time = h.time i }

same_itself : (r : Row) → same_row r r ≡ true
same_itself r =
    let q : (n : ℕ) → eqb n n ≡ true = λ n. eq-eqb n n refl in
    and_from _ _ (q r.thread) (and_from _ _ (q r.what) (and_from _ _ (q r.place) (and_from _ _ (q r.value) (q r.time))))

taking_itself : (e : Event) → taking (kind_of e) (row_of e) ≡ e
taking_itself (events.Preset place value) = refl
taking_itself (events.Commit thread class place value) = refl
taking_itself (events.Perform thread number time) = refl
taking_itself (events.Advance thread time) = refl
taking_itself (events.Begin thread kind place value time) = refl
taking_itself (events.End thread place value time) = refl
taking_itself events.Settle = refl
taking_itself events.Close = refl

kind_taking : (n : EventKind) (r : Row) → kind_of (taking n r) ≡ n
kind_taking kinds.Preset r = refl
kind_taking kinds.Commit r = refl
kind_taking kinds.Perform r = refl
kind_taking kinds.Advance r = refl
kind_taking kinds.Begin r = refl
kind_taking kinds.End r = refl
kind_taking kinds.Settle r = refl
kind_taking kinds.Close r = refl

-- an event's kind and row give the event
pub event_itself : (e : Event) → event_of (kind_of e) (row_of e) ≡ Some e
event_itself e =
    cond-true _ _ _ (subst (λ x. same_row (row_of x) (row_of e) ≡ true) (sym (taking_itself e)) (same_itself (row_of e))) ∙ ap (λ x. Some x) (taking_itself e)

-- a kind and a row that give an event are that event's
pub parts_from_event : (n : EventKind) (r : Row) (e : Event) → event_of n r ≡ Some e → (kind_of e ≡ n) × (row_of e ≡ r)
parts_from_event n r e h =
    elim (cases_Bool (same_row (row_of (taking n r)) r)) [
      | inl t ↦ (
          let q : event_of n r ≡ Some (taking n r) = cond-true _ _ _ t in
          let is : taking n r ≡ e = cc in
          (ap kind_of (sym is) ∙ kind_taking n r, ap row_of (sym is) ∙ row_from_agree _ _ (agree_from_same _ _ t)))
      | inr t ↦ (
          let q : event_of n r ≡ None = cond-false _ _ _ t in
          let z : ◌≡◌ {A = ℕ} 0 1 = cc in
          absurd (omega arith))
    ]
