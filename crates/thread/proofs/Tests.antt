-- Refusal tests in turn. Assumes nothing.
use Rattle.std.proofs.Common.{◌≡◌, ℕ, ◌<◌, ◌≤◌, Bool, true, false, cond, not, is_some, eqb, ltb, leb, List, [], ◌∷◌, length, Some, None, Option, Ok, ok_or, MatchResult, refl, ap, sym, ◌∙◌, arith}
use Rattle.std.specs.List.{position}
use Rattle.std.specs.Result.{result_ok}
use Rattle.std.proofs.lemmas.Bool.{le-ltb}
use Rattle.std.proofs.lemmas.Bool.Decides.{nat_tests}
use Rattle.std.proofs.lemmas.Option.{none-some}
use Rattle.semantics.specs.declared.row.Operation.{Operation}
use Rattle.semantics.specs.declared.kind.EpochKind.{EpochKind}
use Rattle.semantics.specs.declared.verdict.Limit.TheVariants as limit
use Rattle.semantics.specs.declared.verdict.Refusal.{Refusal}
use Rattle.semantics.specs.declared.verdict.Refusal.TheVariants.{UnknownClass, UnknownPlace, PastTime, NotOutstanding, AlreadyBegun, NotOpen, Over}
use Rattle.semantics.specs.Kinds.{kind_of, known_kind}
use Rattle.semantics.specs.Lists.{first_of}
use Rattle.semantics.specs.Refusals.{Test}
use Rattle.semantics.specs.State.{Thread, outstanding_as, epoch_at}
use Rattle.thread.specs.Performing.{no_epoch, Performs, Begins, Ends}
use Rattle.thread.specs.Tests.{early, perform_tests, begin_tests, end_tests}
use Rattle.thread.proofs.Lists.{Found, found_from_position, none_from_position, found_by_position}

pub skip : (b : Bool) (r : Refusal) (ts : List Test) → b ≡ false → first_of ((b, r) ∷ ts) ≡ first_of ts
skip b r ts e = ap (λ b. cond b (Some r) (first_of ts)) e

pub stop : (b : Bool) (r : Refusal) (ts : List Test) → b ≡ true → first_of ((b, r) ∷ ts) ≡ Some r
stop b r ts e = ap (λ b. cond b (Some r) (first_of ts)) e

-- What is found, by the row of it, may perform.
pub performs_free : (w : Thread) (n τ : ℕ) (o : Operation) → w.clock ≤ τ → outstanding_as w n ≡ Some o → Performs w n τ o
performs_free w n τ o l e =
    let unknown = not (is_some (outstanding_as w n)) in
    record {
      free = skip (ltb τ w.clock) PastTime ((unknown, NotOutstanding) ∷ []) (le-ltb τ w.clock l) ∙ skip unknown NotOutstanding [] (ap (λ x. not (is_some x)) e);
      found = e;
      time = l;
    }

pub performs_refused : (w : Thread) (n τ : ℕ) → w.clock ≤ τ → outstanding_as w n ≡ None → first_of (perform_tests n τ w) ≡ Some NotOutstanding
performs_refused w n τ l e =
    let unknown = not (is_some (outstanding_as w n)) in
    skip (ltb τ w.clock) PastTime ((unknown, NotOutstanding) ∷ []) (le-ltb τ w.clock l) ∙ stop unknown NotOutstanding [] (ap (λ x. not (is_some x)) e)

pub ends_free : (w : Thread) (p τ i : ℕ) → p < 512 → w.clock ≤ τ → Found (λ e. eqb e.place p) w.epochs i → first_of (end_tests p τ w) ≡ None
ends_free w p τ i q l f =
    let missing = not (is_some (epoch_at w p)) in
    skip (ltb 511 p) UnknownPlace (early τ w ∷ (missing, NotOpen) ∷ []) (le-ltb 511 p (omega arith))
    ∙ skip (ltb τ w.clock) PastTime ((missing, NotOpen) ∷ []) (le-ltb τ w.clock l)
    ∙ skip missing NotOpen [] (ap (λ x. not (is_some x)) (f.here no_epoch))

-- What is found, by the row of it, may end.
pub ends_by : (w : Thread) (p τ : ℕ) (r : Option ℕ) → r ≡ position (λ e. eqb e.place p) w.epochs → p < 512 → w.clock ≤ τ
    → MatchResult (ok_or r NotOpen) (λ i. Ends w p τ i) (λ f. first_of (end_tests p τ w) ≡ Some f)
ends_by w p τ r e q l = by r e
  where
    missing : Bool
    missing = not (is_some (epoch_at w p))

    on : first_of (end_tests p τ w) ≡ first_of ((missing, NotOpen) ∷ [])
    on = skip (ltb 511 p) UnknownPlace (early τ w ∷ (missing, NotOpen) ∷ []) (le-ltb 511 p (omega arith)) ∙ skip (ltb τ w.clock) PastTime ((missing, NotOpen) ∷ []) (le-ltb τ w.clock l)

    by : (r : Option ℕ) → r ≡ position (λ e. eqb e.place p) w.epochs → MatchResult (ok_or r NotOpen) (λ i. Ends w p τ i) (λ f. first_of (end_tests p τ w) ≡ Some f)
    by None e = on ∙ stop missing NotOpen [] (ap (λ x. not (is_some x)) (none_from_position (λ e. eqb e.place p) w.epochs (sym e)))
    by (Some i) e = let found = found_from_position (λ e. eqb e.place p) w.epochs i (sym e) in record {
      free = on ∙ skip missing NotOpen [] (ap (λ x. not (is_some x)) (found.here no_epoch));
      row = sym e;
      found = found.here no_epoch;
      within = found.within;
      time = l;
    }

kind_known : (k : ℕ) (x : EpochKind) → ok_or (known_kind k) UnknownClass ≡ Ok x → (ltb 1 k ≡ false) × (known_kind k ≡ Some x)
kind_known k x e = by (ltb 1 k) refl e
  where
    by : (b : Bool) → ltb 1 k ≡ b → ok_or (cond b None (Some (kind_of k))) UnknownClass ≡ Ok x → (ltb 1 k ≡ false) × (cond (ltb 1 k) None (Some (kind_of k)) ≡ Some x)
    by true h e = absurd (none-some x (ap result_ok e))
    by false h e = (h, ap (λ b. cond b None (Some (kind_of k))) h ∙ ap result_ok e)

module _ (w : Thread) (k p τ : ℕ) (x : EpochKind) (r : Option ℕ) (named : ok_or (known_kind k) UnknownClass ≡ Ok x) (q : p < 512) (l : w.clock ≤ τ) (row : r ≡ position (λ e. eqb e.place p) w.epochs) where
  abbrev taken : Bool
  taken = is_some (epoch_at w p)

  abbrev last : List Test
  last = (leb 32 (length w.epochs), Over limit.Open) ∷ []

  begin_is : first_of (begin_tests k p τ w) ≡ first_of ((taken, AlreadyBegun) ∷ last)
  begin_is =
      skip (ltb 1 k) UnknownClass ((ltb 511 p, UnknownPlace) ∷ early τ w ∷ (taken, AlreadyBegun) ∷ last) (kind_known k x named).0
      ∙ skip (ltb 511 p) UnknownPlace (early τ w ∷ (taken, AlreadyBegun) ∷ last) (le-ltb 511 p (omega arith))
      ∙ skip (ltb τ w.clock) PastTime ((taken, AlreadyBegun) ∷ last) (le-ltb τ w.clock l)

  open_is : taken ≡ is_some r
  open_is = found_by_position (λ e. eqb e.place p) w.epochs no_epoch r row

  -- The place is open already.
  pub begun_already : is_some r ≡ true → first_of (begin_tests k p τ w) ≡ Some AlreadyBegun
  begun_already h = begin_is ∙ stop taken AlreadyBegun last (open_is ∙ h)

  -- No further epoch can be open.
  pub begun_full : is_some r ≡ false → 32 ≤ length w.epochs → first_of (begin_tests k p τ w) ≡ Some (Over limit.Open)
  begun_full h m = begin_is ∙ skip taken AlreadyBegun last (open_is ∙ h) ∙ stop (leb 32 (length w.epochs)) (Over limit.Open) [] (grind (arith, nat_tests))

  -- The epoch may begin.
  pub begins_by : is_some r ≡ false → length w.epochs < 32 → Begins w k p τ x
  begins_by h m = record {
    free = begin_is ∙ skip taken AlreadyBegun last (open_is ∙ h) ∙ skip (leb 32 (length w.epochs)) (Over limit.Open) [] (grind (arith, nat_tests));
    kind = (kind_known k x named).1;
    place = q;
    time = l;
    room = m;
  }
