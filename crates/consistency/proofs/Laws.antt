-- What the laws of a perform say where none is broken. Assumes nothing.
use Rattle.std.proofs.Common.{◌≡◌, ℕ, ◌<◌, Bool, true, false, cond, not, ◌&&◌, eqb, ltb, ◌⊎◌, List, [], ◌∷◌, Some, None, Option, sym, refl, ap, ◌∙◌, subst, inl, inr, ⊎_elim, arith}
use Rattle.std.proofs.lemmas.Bool.{true≢false, both_ways, cases_Bool, eqb-true, eq-eqb, lt-ltb, ltb-true, and_parts, and_from, and_right, or_cases, or_parts, or_from, or_right, cond-true}
use Rattle.std.specs.List.{find, filter}
use Rattle.std.specs.Option.{is_some}
use Rattle.semantics.specs.declared.row.Operation.{Operation}
use Rattle.semantics.specs.declared.row.Epoch.{Epoch}
use Rattle.semantics.specs.declared.verdict.Law.{Law}
use Rattle.semantics.specs.declared.verdict.Law.TheVariants.{SamePlace, Ordered}
use Rattle.semantics.specs.Classes.{reads, writes, touches, got, puts}
use Rattle.semantics.specs.Effect.{load_answer, answer_of, uses_copy, touch, performed}
use Rattle.semantics.specs.Laws.{Rule, by_rule, earlier, blame, law21, law22, law23, law24, forwarded, source_from, source, may_write, needs_value, perform_laws}
use Rattle.semantics.specs.Lists.{change}
use Rattle.semantics.specs.State.{Thread, epoch_at}
use Rattle.consistency.proofs.Lists.{Mem, find_none, filter_mem, mem_filter, Rising, rising_filter, last_none, last_some}
use Rattle.consistency.proofs.Outstanding.{Lawful, Forward}
use Rattle.consistency.proofs.Tests.{never, first_some_none, cond_none, cond_none_not}

blame_none : (law : Law) (t n : ℕ) (x : Option Operation) → blame law t n x ≡ None → x ≡ None
blame_none law t n None e = refl
blame_none law t n (Some o) e = absurd (never e)

-- What is asked for is there.
asked_is : (a b : Bool) → (a && not b) ≡ false → a ≡ true → b ≡ true
asked_is true true e h = refl
asked_is true false e h = absurd (true≢false e)
asked_is false b e h = absurd (true≢false (sym h))

-- The operation o performs at τ and uses the open epoch of its place.
pub record Touch (w : Thread) (o : Operation) (τ : ℕ) : Type 0 where
  pub epoch : Epoch
  pub found : epoch_at w o.place ≡ Some epoch
  pub stores : writes o.class ≡ true → epoch.writes ≡ true
  pub reads : reads o.class ≡ true → got o ≡ epoch.copy
  pub epochs : (performed w o τ).epochs ≡ change (λ e. eqb e.place o.place) (touch τ o) w.epochs

-- The operation o performs at τ and uses no epoch.
pub record Pass (w : Thread) (o : Operation) (τ : ℕ) : Type 0 where
  pub stores : writes o.class ≡ true → ⊥
  pub reads : reads o.class ≡ true → answer_of w o ≡ 2 → ⊥
  pub epochs : (performed w o τ).epochs ≡ w.epochs

-- What the laws say of the operation o, which performs at τ.
pub record Performs (R : Rule) (w : Thread) (o : Operation) (τ : ℕ) : Type 0 where
  pub lawful : Lawful R w.pending o (answer_of w o)
  pub forward : reads o.class ≡ true → answer_of w o ≡ 1 → Forward w.pending o
  pub epoch : Pass w o τ ⊎ Touch w o τ

earlier_mem : (w : Thread) (n : ℕ) (z : Operation) → Mem z w.pending → z.number < n → Mem z (earlier w n)
earlier_mem w n z m l = mem_filter (λ o. ltb o.number n) w.pending z m (lt-ltb z.number n l)

-- Law 22: nothing that is ordered before o is outstanding.
law22_free : (R : Rule) (w : Thread) (t : ℕ) (o : Operation) → law22 (by_rule R) w t o ≡ None → (z : Operation) → Mem z w.pending → z.number < o.number → by_rule R z o ≡ false
law22_free R w t o e z m l = find_none (λ x. by_rule R x o) (earlier w o.number) (blame_none Ordered t o.number _ e) z (earlier_mem w o.number z m l)

-- Law 21: nothing earlier on its place is outstanding, if o writes.
law21_free : (w : Thread) (t : ℕ) (o : Operation) → law21 w t o ≡ None → (z : Operation) → Mem z w.pending → z.number < o.number → touches z.class ≡ true → writes o.class ≡ true → z.place ≡ o.place → ⊥
law21_free w t o e z m l c d p =
    let test = λ (x : Operation). touches x.class && eqb x.place o.place in
    let h = sym (cond-true (writes o.class) (blame SamePlace t o.number (find test (earlier w o.number))) None d) ∙ e in
    let f = find_none test (earlier w o.number) (blame_none SamePlace t o.number _ h) z (earlier_mem w o.number z m l) in
    both_ways _ f (and_from _ _ c (eq-eqb z.place o.place p))

-- The earlier outstanding stores to the place of o.
abbrev stores_there : Thread → Operation → List Operation
stores_there w o = filter (λ x. writes x.class && eqb x.place o.place) (earlier w o.number)

stands_there : (w : Thread) (o z : Operation) → Mem z w.pending → writes z.class ≡ true → z.place ≡ o.place → z.number < o.number → Mem z (stores_there w o)
stands_there w o z m c p l = mem_filter (λ x. writes x.class && eqb x.place o.place) (earlier w o.number) z (earlier_mem w o.number z m l) (and_from _ _ c (eq-eqb z.place o.place p))

-- The store that o is forwarded from.
forward_from : (w : Thread) (o s : Operation) → Rising (λ (o : Operation). o.number) w.pending → forwarded w o ≡ Some s → puts s ≡ got o → Forward w.pending o
forward_from w o s rising f v =
    let r = rising_filter (λ (o : Operation). o.number) (λ x. writes x.class && eqb x.place o.place) (earlier w o.number) (rising_filter (λ (o : Operation). o.number) (λ x. ltb x.number o.number) w.pending rising) in
    let l = last_some (λ (o : Operation). o.number) _ r s f in
    let k = filter_mem (λ x. writes x.class && eqb x.place o.place) (earlier w o.number) s l.0 in
    let two = and_parts (writes s.class) (eqb s.place o.place) k.1 in
    let m = filter_mem (λ x. ltb x.number o.number) w.pending s k.0 in
    record {
      source = s;
      here = m.0;
      sooner = ltb-true s.number o.number m.1;
      stores = two.0;
      same = eqb-true s.place o.place two.1;
      value = v;
      last = λ z n c p u. l.1 z (stands_there w o z n c p u);
    }

pub perform_facts : (R : Rule) (w : Thread) (t : ℕ) (o : Operation) (τ : ℕ) → Mem o w.pending → Rising (λ (o : Operation). o.number) w.pending → perform_laws (by_rule R) w t o ≡ None → Performs R w o τ
perform_facts R w t o τ here rising e =
    let e1 = first_some_none (law21 w t o) (law22 (by_rule R) w t o ∷ law23 w t o ∷ law24 w t o ∷ []) e in
    let e2 = first_some_none (law22 (by_rule R) w t o) (law23 w t o ∷ law24 w t o ∷ []) e1.1 in
    let e3 = first_some_none (law23 w t o) (law24 w t o ∷ []) e2.1 in
    let e4 = first_some_none (law24 w t o) [] e3.1 in
    let leave = or_parts (writes o.class && not (may_write (epoch_at w o.place))) (reads o.class && not (is_some (source w o))) (cond_none_not _ _ e3.0) in
    go e1.0 e2.0 (asked_is _ _ leave.0) (asked_is _ _ leave.1) (λ rd. sym (cond-true (reads o.class) (needs_value t o (source w o)) None rd) ∙ e4.0) (forwarded w o) refl (epoch_at w o.place) refl
  where
    answer : (f : Option Operation) → forwarded w o ≡ f → reads o.class ≡ true → answer_of w o ≡ load_answer f
    answer f q rd = cond-true (reads o.class) (load_answer (forwarded w o)) 0 rd ∙ ap load_answer q

    used : (b : Bool) → uses_copy w o ≡ b → (performed w o τ).epochs ≡ cond b (change (λ e. eqb e.place o.place) (touch τ o) w.epochs) w.epochs
    used b q = ap (λ b. cond b (change (λ e. eqb e.place o.place) (touch τ o) w.epochs) w.epochs) q

    go : law21 w t o ≡ None → law22 (by_rule R) w t o ≡ None → (writes o.class ≡ true → may_write (epoch_at w o.place) ≡ true) → (reads o.class ≡ true → is_some (source w o) ≡ true)
        → (reads o.class ≡ true → needs_value t o (source w o) ≡ None)
        → (f : Option Operation) → forwarded w o ≡ f → (x : Option Epoch) → epoch_at w o.place ≡ x → Performs R w o τ
    go a b may has val (Some s) f x q = record {
      lawful = record { here = here; free = law22_free R w t o b; places = law21_free w t o a; unread = λ z _ _ _ rd g _. let n = answer (Some s) f rd in omega arith; answers = λ rd. inl (answer (Some s) f rd) };
      forward = λ rd _. forward_from w o s rising f (eqb-true _ _ (cond_none _ _ (subst (λ g. needs_value t o (source_from g (epoch_at w o.place)) ≡ None) f (val rd))));
      epoch = inl (record {
        stores = unwritten;
        reads = λ rd g. let n = answer (Some s) f rd in omega arith;
        epochs = used false (or_from _ _ (⊎_elim (λ wr. absurd (unwritten wr)) (λ n. n) (cases_Bool (writes o.class))) (and_right (reads o.class) _ (ap (λ g. not (is_some g)) f)));
      });
    }
      where
        -- What writes is never forwarded, by law 21.
        unwritten : writes o.class ≡ true → ⊥
        unwritten wr =
            let l = last_some (λ (o : Operation). o.number) (stores_there w o) (rising_filter (λ (o : Operation). o.number) (λ x. writes x.class && eqb x.place o.place) (earlier w o.number) (rising_filter (λ (o : Operation). o.number) (λ x. ltb x.number o.number) w.pending rising)) s f in
            let k = filter_mem (λ x. writes x.class && eqb x.place o.place) (earlier w o.number) s l.0 in
            let two = and_parts (writes s.class) (eqb s.place o.place) k.1 in
            let m = filter_mem (λ x. ltb x.number o.number) w.pending s k.0 in
            law21_free w t o a s m.0 (ltb-true s.number o.number m.1) (or_right (reads s.class) (writes s.class) two.0) wr (eqb-true s.place o.place two.1)
    go a b may has val None f x q = by (cases_Bool (uses_copy w o)) x q
      where
        lawful : Lawful R w.pending o (answer_of w o)
        lawful = record { here = here; free = law22_free R w t o b; places = law21_free w t o a; unread = λ z m l d _ _ p. last_none _ f z (stands_there w o z m d p l); answers = λ rd. inr (answer None f rd) }

        unforwarded : reads o.class ≡ true → answer_of w o ≡ 1 → Forward w.pending o
        unforwarded rd g = let n = answer None f rd in absurd (omega arith)

        source_is : (x : Option Epoch) → epoch_at w o.place ≡ x → source w o ≡ source_from None x
        source_is x q = ap (λ g. source_from g (epoch_at w o.place)) f ∙ ap (source_from None) q

        reading : uses_copy w o ≡ false → reads o.class ≡ true → ⊥
        reading n rd = both_ways _ (or_parts (writes o.class) _ n).1 (and_from (reads o.class) _ rd (ap (λ g. not (is_some g)) f))

        -- With no epoch there is no leave.
        closed : epoch_at w o.place ≡ None → uses_copy w o ≡ true → ⊥
        closed q u = ⊎_elim
            (λ wr. both_ways _ (ap may_write q) (may wr))
            (λ rd. both_ways _ (ap is_some (source_is None q)) (has (and_parts (reads o.class) _ rd).0)) (or_cases (writes o.class) _ u)

        by : (uses_copy w o ≡ true) ⊎ (uses_copy w o ≡ false) → (x : Option Epoch) → epoch_at w o.place ≡ x → Performs R w o τ
        by (inr n) x q = record {
          lawful = lawful;
          forward = unforwarded;
          epoch = inl (record { stores = λ wr. both_ways _ (or_parts (writes o.class) _ n).0 wr; reads = λ rd _. reading n rd; epochs = used false n });
        }
        by (inl u) None q = absurd (closed q u)
        by (inl u) (Some e) q = record {
          lawful = lawful;
          forward = unforwarded;
          epoch = inr (record {
            epoch = e;
            found = q;
            stores = λ wr. sym (ap may_write q) ∙ may wr;
            reads = λ rd. sym (eqb-true _ _ (cond_none _ _ (subst (λ g. needs_value t o g ≡ None) (source_is (Some e) q) (val rd))));
            epochs = used true u;
          });
        }
