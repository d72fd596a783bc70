-- The laws of a perform, by what lookups found. Assumes nothing.
use Rattle.std.proofs.Common.{◌≡◌, ℕ, Bool, true, false, cond, not, ◌&&◌, ◌||◌, is_some, eqb, ltb, slice_index_or, List, [], ◌∷◌, filter, find, Some, None, Option, Ok, Err, Result, MatchResult, subst, sym, refl, ap, ◌∙◌}
use Rattle.std.specs.List.{position}
use Rattle.semantics.specs.declared.class.OpClass.{OpClass}
use Rattle.semantics.specs.declared.class.OpClass.TheVariants.{Load, Store}
use Rattle.semantics.specs.declared.row.Operation.{Operation}
use Rattle.semantics.specs.declared.row.Epoch.{Epoch}
use Rattle.semantics.specs.declared.verdict.Conviction.{Conviction}
use Rattle.semantics.specs.declared.verdict.Law.TheVariants.{SamePlace, Ordered, NoLeave, WrongValue}
use Rattle.semantics.specs.Classes.{reads, writes, touches, face}
use Rattle.semantics.specs.Effect.{touch, load_answer}
use Rattle.semantics.specs.Laws.{Rule, Precedes, by_rule, earlier, blame, law21, law22, forwarded, source_from, may_write, needs_value, perform_laws}
use Rattle.semantics.specs.Lists.{change, first_some, last_of}
use Rattle.semantics.specs.State.{Thread}
use Rattle.thread.specs.declared.served.Performed.TheVariants.{Done, Forwarded, Copied}
use Rattle.thread.specs.declared.served.Served.{Served}
use Rattle.thread.specs.Attempt.{last_writer, epoch_of, grant_by, value_by, laws_by, SourcedBy}
use Rattle.thread.specs.Performing.{no_epoch, ServesBy, Serves}
use Rattle.thread.proofs.Lists.{found_from_position, none_from_position}
use Rattle.thread.proofs.FoundRows.{find_keep, keep_keep}

-- The tests of lookups in all that is outstanding.
abbrev pub shares_place : Operation → Operation → Bool
shares_place o x = cond (ltb x.number o.number) (touches x.class && eqb x.place o.place) false

abbrev pub feeds : Operation → Operation → Bool
feeds o x = cond (ltb x.number o.number) (writes x.class && eqb x.place o.place) false

abbrev pub goes_before : Rule → Operation → Operation → Bool
goes_before R o x = cond (ltb x.number o.number) (R (face x.class) (face o.class)) false

pub law21_is : (w : Thread) (t : ℕ) (o : Operation) (f : Option Operation) → writes o.class ≡ true → find (shares_place o) w.pending ≡ f → law21 w t o ≡ blame SamePlace t o.number f
law21_is w t o f s e =
    ap (λ b. cond b (blame SamePlace t o.number (find (λ x. touches x.class && eqb x.place o.place) (earlier w o.number))) None) s
    ∙ ap (blame SamePlace t o.number) (find_keep (λ x. ltb x.number o.number) (λ x. touches x.class && eqb x.place o.place) w.pending ∙ e)

pub law22_is : (R : Rule) (w : Thread) (t : ℕ) (o : Operation) (f : Option Operation) → find (goes_before R o) w.pending ≡ f → law22 (by_rule R) w t o ≡ blame Ordered t o.number f
law22_is R w t o f e = ap (blame Ordered t o.number) (find_keep (λ x. ltb x.number o.number) (λ x. R (face x.class) (face o.class)) w.pending ∙ e)

pub forwarded_is : (w : Thread) (o : Operation) (f : Option Operation) → last_of (filter (feeds o) w.pending) ≡ f → forwarded w o ≡ f
forwarded_is w o f e = ap last_of (keep_keep (λ x. ltb x.number o.number) (λ x. writes x.class && eqb x.place o.place) w.pending) ∙ e

module _ (t : ℕ) (o : Operation) (f : Option Operation) (e : Option Epoch) where
  -- Laws 23 and 24, by the class, whether the thread may write the place, and the source.
  abbrev leave_of : OpClass → Bool → Option ℕ → Option Conviction
  leave_of c m s =
      first_some (cond ((writes c && not m) || (reads c && not (is_some s))) (Some (record { law = NoLeave; thread = t; number = o.number; other = o.place })) None
      ∷ cond (reads c) (needs_value t o s) None ∷ [])

  abbrev leave_by : Option Conviction
  leave_by = first_some (grant_by t o f e ∷ value_by t o f e ∷ [])

  leave_is : (c : OpClass) (m : Bool) (s : Option ℕ) → o.class ≡ c → may_write e ≡ m → source_from f e ≡ s → leave_by ≡ leave_of c m s
  leave_is c m s d h k = ap (λ c. leave_of c (may_write e) (source_from f e)) d ∙ ap (λ m. leave_of c m (source_from f e)) h ∙ ap (leave_of c m) k

  -- A load that received its source's value.
  pub load_lawful : (v : ℕ) → o.class ≡ Load → source_from f e ≡ Some v → eqb v o.value ≡ true → leave_by ≡ None
  load_lawful v d k q = leave_is Load (may_write e) (Some v) d refl k ∙ ap (λ b. first_some (None ∷ cond b None (Some (record { law = WrongValue; thread = t; number = o.number; other = v })) ∷ [])) q

  pub load_wrong : (v : ℕ) → o.class ≡ Load → source_from f e ≡ Some v → eqb v o.value ≡ false → leave_by ≡ Some (record { law = WrongValue; thread = t; number = o.number; other = v })
  load_wrong v d k q = leave_is Load (may_write e) (Some v) d refl k ∙ ap (λ b. first_some (None ∷ cond b None (Some (record { law = WrongValue; thread = t; number = o.number; other = v })) ∷ [])) q

  pub load_sourceless : o.class ≡ Load → source_from f e ≡ None → leave_by ≡ Some (record { law = NoLeave; thread = t; number = o.number; other = o.place })
  load_sourceless d k = leave_is Load (may_write e) None d refl k

  pub store_lawful : o.class ≡ Store → may_write e ≡ true → leave_by ≡ None
  store_lawful d h = leave_is Store true (source_from f e) d h refl

  pub store_without : o.class ≡ Store → may_write e ≡ false → leave_by ≡ Some (record { law = NoLeave; thread = t; number = o.number; other = o.place })
  store_without d h = leave_is Store false (source_from f e) d h refl

module _ (f : Option Operation) (es : List Epoch) (o : Operation) where
  -- The copies, by the class.
  abbrev copies_by : OpClass → ℕ → List Epoch
  copies_by c τ = cond (writes c || (reads c && not (is_some f))) (change (λ e. eqb e.place o.place) (touch τ o) es) es

  -- What a load's source says of its answer and of the epochs.
  pub load_serves : (v : ℕ) (s : Served) → o.class ≡ Load → SourcedBy f es o v s → ServesBy f es o s
  load_serves v s d h = record {
    answer = h.answer ∙ sym (ap (λ c. cond (reads c) (load_answer f) 0) d);
    uses = λ τ. ap (λ c. copies_by c τ) d ∙ h.uses τ;
    within = h.within;
  }

  -- A store uses the epoch of its place.
  pub store_serves : (i : ℕ) → o.class ≡ Store → position (λ e. eqb e.place o.place) es ≡ Some i → ServesBy f es o (record { answer = Done; uses = Some i })
  store_serves i d h = let found = found_from_position (λ e. eqb e.place o.place) es i h in record {
    answer = sym (ap (λ c. cond (reads c) (load_answer f) 0) d);
    uses = λ τ. ap (λ c. copies_by c τ) d ∙ found.changed (touch τ o) no_epoch;
    within = found.within;
  }

  -- A load that an outstanding store serves uses no epoch.
  pub source_forwarded : (x : Operation) → Some x ≡ f → SourcedBy f es o x.value (record { answer = Forwarded; uses = None })
  source_forwarded x q = record {
    value = ap (λ f. source_from f (epoch_of es o)) (sym q);
    answer = ap load_answer q;
    uses = λ τ. ap (λ f. cond (not (is_some f)) (change (λ e. eqb e.place o.place) (touch τ o) es) es) (sym q);
    within = tt;
  }

  -- A load that no outstanding store serves reads the copy.
  pub source_copied : (i v : ℕ) → None ≡ f → position (λ e. eqb e.place o.place) es ≡ Some i → (slice_index_or es i no_epoch).copy ≡ v → SourcedBy f es o v (record { answer = Copied; uses = Some i })
  source_copied i v q h k = let found = found_from_position (λ e. eqb e.place o.place) es i h in record {
    value = ap (λ f. source_from f (epoch_of es o)) (sym q) ∙ ap (source_from None) (found.here no_epoch) ∙ ap Some k;
    answer = ap load_answer q;
    uses = λ τ. ap (λ f. cond (not (is_some f)) (change (λ e. eqb e.place o.place) (touch τ o) es) es) (sym q) ∙ found.changed (touch τ o) no_epoch;
    within = found.within;
  }

  pub source_none : None ≡ f → position (λ e. eqb e.place o.place) es ≡ None → source_from f (epoch_of es o) ≡ None
  source_none q h = ap (λ f. source_from f (epoch_of es o)) (sym q) ∙ ap (source_from None) (none_from_position (λ e. eqb e.place o.place) es h)

pub may_write_found : (es : List Epoch) (o : Operation) (i : ℕ) (b : Bool) → position (λ e. eqb e.place o.place) es ≡ Some i → (slice_index_or es i no_epoch).writes ≡ b → may_write (epoch_of es o) ≡ b
may_write_found es o i b h k = ap may_write ((found_from_position (λ e. eqb e.place o.place) es i h).here no_epoch) ∙ k

pub may_write_none : (es : List Epoch) (o : Operation) → position (λ e. eqb e.place o.place) es ≡ None → may_write (epoch_of es o) ≡ false
may_write_none es o h = ap may_write (none_from_position (λ e. eqb e.place o.place) es h)

abbrev serves_by : Operation → List Operation → List Epoch → Served → Type 0
serves_by o os es s = ServesBy (last_writer os o) es o s

-- What an attempt of a thread serves or breaks is what the operation in the thread does.
pub lawful_in : (B : Precedes) (w : Thread) (t : ℕ) (o : Operation) (t' : ℕ) (o' : Operation) (os : List Operation) (es : List Epoch)
    → t' ≡ t → o' ≡ o → os ≡ earlier w o.number → es ≡ w.epochs → (r : Result Served Conviction)
    → MatchResult r (λ s. (laws_by B os es t' o' ≡ None) × serves_by o' os es s) (λ c. laws_by B os es t' o' ≡ Some c)
    → MatchResult r (λ s. (perform_laws B w t o ≡ None) × Serves w o s) (λ c. perform_laws B w t o ≡ Some c)
lawful_in B w t o t' o' os es p q h k r m = go r m
  where
    same : laws_by B os es t' o' ≡ perform_laws B w t o
    same = λ i. laws_by B (h i) (k i) (p i) (q i)

    given : ◌≡◌ {A = Operation × (List Operation × List Epoch)} (o', (os, es)) (o, (earlier w o.number, w.epochs))
    given = λ i. (q i, (h i, k i))

    go : (r : Result Served Conviction)
        → MatchResult r (λ s. (laws_by B os es t' o' ≡ None) × serves_by o' os es s) (λ c. laws_by B os es t' o' ≡ Some c)
        → MatchResult r (λ s. (perform_laws B w t o ≡ None) × Serves w o s) (λ c. perform_laws B w t o ≡ Some c)
    go (Ok s) m = (sym same ∙ m.0, subst (λ z. serves_by z.0 z.1.0 z.1.1 s) given m.1)
    go (Err c) m = sym same ∙ m
