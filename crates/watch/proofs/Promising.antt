-- The promises of the calls, from what the table's calls do. Assumes nothing.
use Rattle.std.proofs.Common.{◌≡◌, ℕ, ◌+◌, ◌≤◌, Bool, true, false, cond, ◌||◌, [], ◌∷◌, sym, refl, ap, ◌∙◌, subst, arith}
use Rattle.semantics.specs.declared.counts.Counts.{Counts}
use Rattle.semantics.specs.declared.verdict.Verdict.{Verdict}
use Rattle.semantics.specs.declared.verdict.Verdict.TheVariants.{Clean}
use Rattle.semantics.specs.Asking.{counts}
use Rattle.semantics.specs.Calls.{Call, close, Answer}
use Rattle.semantics.specs.Effect.{Outcome}
use Rattle.semantics.specs.Laws.{Rule, by_rule}
use Rattle.semantics.specs.State.{State}
use Rattle.semantics.specs.Trace.{Trace, Follows, says_clean, is_clean}
use Rattle.accounts.proofs.Exact.{accounts_are_exact, rows_are_epochs, calls_add_up}
use Rattle.accounts.proofs.Homes.{homes_are_told}
use Rattle.consistency.specs.Verdicts.{clean_closes}
use Rattle.consistency.proofs.Clean.{clean_is_consistent, clean_keeps_places, clean_copies_are_latest, clean_performs_all}
use Rattle.consistency.proofs.Verdicts.{TellsBy, tells}
use Rattle.honest.specs.Honest.{HonestCall, HonestClose}
use Rattle.honest.proofs.AtOneCall.{honest_call, honest_close}
use Rattle.table.specs.Told.{Meets}
use Rattle.watch.specs.Promises.{Accounted, ShownClean, Promised, ClosePromised, Concluded, Counted}
use Rattle.watch.specs.Took.{Held, event}
use Rattle.watch.proofs.Taking.{grows}

pub accounted : (R : Rule) (n : ℕ) (tr : Trace) (s : State) → Follows R n tr s → Accounted tr s
accounted R n tr s f = record { exact = accounts_are_exact R n tr s f; rows = rows_are_epochs R n tr s f; sums = calls_add_up R n tr s f; homes = homes_are_told R n tr s f }

pub shown_clean : (R : Rule) (n : ℕ) (tr : Trace) (s : State) → Follows R n tr s → is_clean tr ≡ true → ShownClean R tr
shown_clean R n tr s f e = record {
  consistent = clean_is_consistent R n tr s f e;
  places = clean_keeps_places R n tr s f e;
  copies = clean_copies_are_latest R n tr s f e;
  all_performed = clean_performs_all R n tr s f e;
}

pub promised : {X : Type 0} (orders : X → Rule) (before : Held X) (c : Call) (a : Answer) (after : Held X) → Meets (by_rule (orders before.rule)) before.state c a after.state → Promised orders before c a after
promised orders before c a after m =
    let R = orders before.rule in
    record {
      honest = λ n tr f. subst (HonestCall R n tr c) (sym (ap (λ (o : Outcome). o.answer) m)) (honest_call R n tr before.state c f);
      accounts = λ n tr f. accounted R n (event c a ∷ tr) after.state (grows R before.state c a after.state m n tr f);
    }

pub close_promised : {X : Type 0} (orders : X → Rule) (before : Held X) (a : Answer) (after : Held X) → Meets (by_rule (orders before.rule)) before.state close a after.state → ClosePromised orders before a after
close_promised orders before a after m =
    let R = orders before.rule in
    let s = before.state in
    let s' = after.state in
    record {
      clean = λ n tr f e. shown_clean R n (event close a ∷ tr) s' (grows R s close a s' m n tr f) (ap (λ b. says_clean b || is_clean tr) e);
      honest = λ n tr f. subst (HonestClose R n tr) (sym (ap (λ (o : Outcome). o.answer) m)) (honest_close R n tr s f);
      accounts = λ n tr f. accounted R n (event close a ∷ tr) s' (grows R s close a s' m n tr f);
    }

-- A trace in which a close is counted is clean.
counted_clean : (tr : Trace) → 1 ≤ clean_closes tr → is_clean tr ≡ true
counted_clean [] l = absurd (omega arith)
counted_clean (e ∷ tr) l = by (says_clean e.answer) l (counted_clean tr)
  where
    by : (b : Bool) → 1 ≤ cond b (clean_closes tr + 1) (clean_closes tr) → (1 ≤ clean_closes tr → is_clean tr ≡ true) → (b || is_clean tr) ≡ true
    by true l ih = refl
    by false l ih = ih l

pub concluded : {X : Type 0} (orders : X → Rule) (now : Held X) (v : Verdict) → v ≡ now.state.verdict → Concluded orders now v
concluded orders now v q n tr f e =
    let h : TellsBy Clean tr now.state = subst (λ v. TellsBy v tr now.state) (sym q ∙ e) (tells (orders now.rule) n f) in
    let k = h.0 in
    shown_clean (orders now.rule) n tr now.state f (counted_clean tr (omega arith))

pub counted : {X : Type 0} (orders : X → Rule) (now : Held X) (k : Counts) → k ≡ counts now.state → Counted orders now k
counted orders now k q = record {
  counted = λ n tr f. q ∙ (accounted (orders now.rule) n tr now.state f).exact.counted;
  accounts = λ n tr f. accounted (orders now.rule) n tr now.state f;
}
