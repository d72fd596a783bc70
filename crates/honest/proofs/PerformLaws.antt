-- An operation that the machine performs breaks none of the laws of a perform, and what it leaves of the epochs. Assumes nothing.
use Rattle.std.proofs.Common.{◌≡◌, ℕ, Bool, true, false, cond, not, ◌&&◌, ◌||◌, eqb, List, [], ◌∷◌, Some, None, Option, sym, refl, ap, ◌∙◌}
use Rattle.std.proofs.lemmas.Bool.{eqb-true, eq-eqb, true≢false, or_parts, and_from}
use Rattle.std.specs.List.{find}
use Rattle.std.specs.Option.{is_some}
use Rattle.semantics.specs.declared.class.OpClass.{OpClass}
use Rattle.semantics.specs.declared.class.OpClass.TheVariants.{Load, Store, Barrier}
use Rattle.semantics.specs.declared.row.Epoch.{Epoch}
use Rattle.semantics.specs.declared.row.Operation.{Operation}
use Rattle.semantics.specs.declared.verdict.Conviction.{Conviction}
use Rattle.semantics.specs.declared.verdict.Law.TheVariants.{SamePlace, Ordered, NoLeave, WrongValue}
use Rattle.semantics.specs.Classes.{reads, writes, touches, got, puts}
use Rattle.semantics.specs.Effect.{performed, touch, uses_copy}
use Rattle.semantics.specs.Laws.{Precedes, earlier, blame, law21, law22, law23, law24, lacks_leave, may_write, forwarded, source_from, source, needs_value, perform_laws}
use Rattle.semantics.specs.Lists.{change, first_some}
use Rattle.semantics.specs.State.{Thread, epoch_at}
use Rattle.honest.specs.Machine.{Unordered, Clear, StoresTo}
use Rattle.honest.proofs.Lists.{find_none, every_to}

-- No class both reads and writes.
store_reads_not : (c : OpClass) → writes c ≡ true → reads c ≡ false
store_reads_not Load e = sym e
store_reads_not Store e = refl
store_reads_not (Barrier m) e = refl

pub load_writes_not : (c : OpClass) → reads c ≡ true → writes c ≡ false
load_writes_not Load e = refl
load_writes_not Store e = sym e
load_writes_not (Barrier m) e = refl

-- The test for a store to a place.
pub no_store_test : (p : ℕ) (x : Operation) → (StoresTo p x → ⊥) → (writes x.class && eqb x.place p) ≡ false
no_store_test p x n = go (writes x.class) refl (eqb x.place p) refl
  where
    go : (b : Bool) → writes x.class ≡ b → (c : Bool) → eqb x.place p ≡ c → (b && c) ≡ false
    go true e true f = absurd (n (e, eqb-true x.place p f))
    go true e false f = refl
    go false e c f = refl

pub store_test : (p : ℕ) (x : Operation) → StoresTo p x → (writes x.class && eqb x.place p) ≡ true
store_test p x s = and_from (writes x.class) (eqb x.place p) s.0 (eq-eqb x.place p s.1)

-- Each law, and all four.
clear_test : (a b : Bool) → (b ≡ true → a ≡ false) → (a && b) ≡ false
clear_test true true h = h refl
clear_test true false h = refl
clear_test false b h = refl

law21_store : (w : Thread) (u : ℕ) (o : Operation) → Clear (earlier w o.number) o → law21 w u o ≡ None
law21_store w u o h =
    ap (λ z. cond (writes o.class) (blame SamePlace u o.number z) None)
    (find_none (λ x. touches x.class && eqb x.place o.place) (earlier w o.number)
    (every_to (λ x k. clear_test (touches x.class) (eqb x.place o.place) (λ e. k (eqb-true x.place o.place e))) (earlier w o.number) h))
    ∙ either (writes o.class)
  where
    either : (b : Bool) → ◌≡◌ {A = Option Conviction} (cond b None None) None
    either true = refl
    either false = refl

law21_other : (w : Thread) (u : ℕ) (o : Operation) → writes o.class ≡ false → law21 w u o ≡ None
law21_other w u o e = ap (λ b. cond b (blame SamePlace u o.number (find (λ x. touches x.class && eqb x.place o.place) (earlier w o.number))) None) e

law22_none : (B : Precedes) (w : Thread) (u : ℕ) (o : Operation) → Unordered B (earlier w o.number) o → law22 B w u o ≡ None
law22_none B w u o h = ap (blame Ordered u o.number) (find_none (λ x. B x o) (earlier w o.number) h)

law23_none : (w : Thread) (u : ℕ) (o : Operation) → lacks_leave w o ≡ false → law23 w u o ≡ None
law23_none w u o e = ap (λ b. cond b (Some (record { law = NoLeave; thread = u; number = o.number; other = o.place })) None) e

law24_other : (w : Thread) (u : ℕ) (o : Operation) → reads o.class ≡ false → law24 w u o ≡ None
law24_other w u o e = ap (λ b. cond b (needs_value u o (source w o)) None) e

law24_value : (w : Thread) (u : ℕ) (o : Operation) (v : ℕ) → source w o ≡ Some v → v ≡ got o → law24 w u o ≡ None
law24_value w u o v is e = let b = eq-eqb v (got o) e in
    ap (λ z. cond (reads o.class) (needs_value u o z) None) is ∙ ap (λ z. cond (reads o.class) (cond z None (Some (record { law = WrongValue; thread = u; number = o.number; other = v }))) None) b ∙ either (reads o.class)
  where
    either : (b : Bool) → ◌≡◌ {A = Option Conviction} (cond b None None) None
    either true = refl
    either false = refl

laws_none : (B : Precedes) (w : Thread) (u : ℕ) (o : Operation) → law21 w u o ≡ None → law22 B w u o ≡ None → law23 w u o ≡ None → law24 w u o ≡ None → perform_laws B w u o ≡ None
laws_none B w u o a b c d = go (law21 w u o) (law22 B w u o) (law23 w u o) (law24 w u o) a b c d
  where
    go : (x y z v : Option Conviction) → x ≡ None → y ≡ None → z ≡ None → v ≡ None → first_some (x ∷ y ∷ z ∷ v ∷ []) ≡ None
    go x y z v a b c d = cc

-- Leave: a write hold gives it to a store, a source gives it to a load.
leave : (x y m : Bool) (s : Bool) → (x ≡ true → m ≡ true) → (y ≡ true → s ≡ true) → ((x && not m) || (y && not s)) ≡ false
leave true true m s f g = let a = f refl in let b = g refl in cc
leave true false m s f g = let a = f refl in cc
leave false true m s f g = let b = g refl in cc
leave false false m s f g = refl

lacks_not : (w : Thread) (o : Operation) → (writes o.class ≡ true → may_write (epoch_at w o.place) ≡ true) → (reads o.class ≡ true → is_some (source w o) ≡ true) → lacks_leave w o ≡ false
lacks_not w o f g = leave (writes o.class) (reads o.class) (may_write (epoch_at w o.place)) (is_some (source w o)) f g

module _ (B : Precedes) (w : Thread) (u : ℕ) (o : Operation) (un : Unordered B (earlier w o.number) o) where
  pub laws_barrier : touches o.class ≡ false → perform_laws B w u o ≡ None
  laws_barrier c =
      let p = or_parts (reads o.class) (writes o.class) c in
      laws_none B w u o (law21_other w u o p.1) (law22_none B w u o un)
      (law23_none w u o (lacks_not w o (λ x. absurd (true≢false (sym x ∙ p.1))) (λ x. absurd (true≢false (sym x ∙ p.0))))) (law24_other w u o p.0)

  pub laws_store : (e : Epoch) → writes o.class ≡ true → Clear (earlier w o.number) o → epoch_at w o.place ≡ Some e → e.writes ≡ true → perform_laws B w u o ≡ None
  laws_store e c cl at is =
      let r = store_reads_not o.class c in
      laws_none B w u o (law21_store w u o cl) (law22_none B w u o un)
      (law23_none w u o (lacks_not w o (λ _. ap may_write at ∙ is) (λ x. absurd (true≢false (sym x ∙ r))))) (law24_other w u o r)

  laws_source : (v : ℕ) → reads o.class ≡ true → source w o ≡ Some v → v ≡ got o → perform_laws B w u o ≡ None
  laws_source v c is e =
      let x = load_writes_not o.class c in
      laws_none B w u o (law21_other w u o x) (law22_none B w u o un)
      (law23_none w u o (lacks_not w o (λ y. absurd (true≢false (sym y ∙ x))) (λ _. ap is_some is))) (law24_value w u o v is e)

  pub laws_early : (s : Operation) → reads o.class ≡ true → forwarded w o ≡ Some s → puts s ≡ got o → perform_laws B w u o ≡ None
  laws_early s c at is = laws_source (puts s) c (ap (λ z. source_from z (epoch_at w o.place)) at) is

  pub laws_load : (e : Epoch) → reads o.class ≡ true → forwarded w o ≡ None → epoch_at w o.place ≡ Some e → e.copy ≡ got o → perform_laws B w u o ≡ None
  laws_load e c fw at is = laws_source e.copy c (ap (λ z. source_from z (epoch_at w o.place)) fw ∙ ap (source_from None) at) is

-- The epochs after a perform: changed if the operation uses the copy.
module _ (w : Thread) (o : Operation) (τ : ℕ) where
  abbrev touched_at_place : List Epoch
  touched_at_place = change (λ e. eqb e.place o.place) (touch τ o) w.epochs

  epochs_used : uses_copy w o ≡ true → (performed w o τ).epochs ≡ touched_at_place
  epochs_used e = ap (λ b. cond b touched_at_place w.epochs) e

  epochs_kept : uses_copy w o ≡ false → (performed w o τ).epochs ≡ w.epochs
  epochs_kept e = ap (λ b. cond b touched_at_place w.epochs) e

  pub epochs_barrier : touches o.class ≡ false → (performed w o τ).epochs ≡ w.epochs
  epochs_barrier c = let p = or_parts (reads o.class) (writes o.class) c in
      epochs_kept (ap (λ z. z || (reads o.class && not (is_some (forwarded w o)))) p.1 ∙ ap (λ z. z && not (is_some (forwarded w o))) p.0)

  pub epochs_early : (s : Operation) → reads o.class ≡ true → forwarded w o ≡ Some s → (performed w o τ).epochs ≡ w.epochs
  epochs_early s c e =
      epochs_kept (ap (λ z. z || (reads o.class && not (is_some (forwarded w o)))) (load_writes_not o.class c) ∙ ap (λ z. z && not (is_some (forwarded w o))) c ∙ ap (λ z. not (is_some z)) e)

  pub epochs_load : reads o.class ≡ true → forwarded w o ≡ None → (performed w o τ).epochs ≡ touched_at_place
  epochs_load c e =
      epochs_used (ap (λ z. z || (reads o.class && not (is_some (forwarded w o)))) (load_writes_not o.class c) ∙ ap (λ z. z && not (is_some (forwarded w o))) c ∙ ap (λ z. not (is_some z)) e)

  pub epochs_store : writes o.class ≡ true → (performed w o τ).epochs ≡ touched_at_place
  epochs_store c = epochs_used (ap (λ z. z || (reads o.class && not (is_some (forwarded w o)))) c)
