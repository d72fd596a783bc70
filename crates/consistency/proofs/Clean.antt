-- A clean trace is consistent. Assumes nothing.
use Rattle.std.proofs.Common.{◌≡◌, ℕ, zero, suc, Bool, true, ◌||◌, [], ◌∷◌, get_or, replicate, sym, refl, ap, ◌∙◌, subst, ⊎_elim, arith}
use lib.ListN.{length-replicate}
use Rattle.semantics.specs.declared.row.Ended.{Ended}
use Rattle.semantics.specs.declared.row.Home.{Home}
use Rattle.semantics.specs.Calls.{close}
use Rattle.semantics.specs.Laws.{Rule, by_rule}
use Rattle.semantics.specs.Limits.{places}
use Rattle.semantics.specs.State.{State, idle, unused}
use Rattle.semantics.specs.Step.{step}
use Rattle.semantics.specs.Trace.{Trace, Follows, new, met, met_with, says_clean, is_clean, starting}
use Rattle.consistency.specs.Performed.{Performed, none, program, performs}
use Rattle.consistency.specs.Promises.{CleanIsConsistent, CloseIsConsistent, CleanKeepsPlaces, CleanCopiesAreLatest, CleanPerformsAll}
use Rattle.consistency.proofs.Lists.{Nth}
use Rattle.consistency.proofs.Tests.{never}
use Rattle.consistency.proofs.Verdicts.{verdict_is_clean}
use Rattle.consistency.proofs.Threads.{ThreadHolds}
use Rattle.consistency.proofs.Invariant.{Past, WatchHolds}
use Rattle.consistency.proofs.Steps.{Shown, StandsBy, Stands, meets}

-- A watch made new.
filled : {A : Type 0} (n i : ℕ) (a : A) → get_or (replicate n a) i a ≡ a
filled zero i a = refl
filled (suc n) zero a = refl
filled (suc n) (suc i) a = filled n i a

no_nth : {k : ℕ} {x : Performed} → Nth none [] k x → ⊥
no_nth h = let w = h.within in omega arith

new_thread_holds : (R : Rule) (begun : ℕ → Bool) (t : ℕ) → ThreadHolds R [] [] begun (Past [] [] []) t idle
new_thread_holds R begun t = record {
  outstanding = record {
    counted = refl;
    rising = tt;
    below = λ o m. absurd m;
    known = λ o m. absurd m;
    accounted = λ m l. absurd (omega arith);
    done_known = λ k x h. absurd (no_nth h);
    numbered = λ k x h. absurd (no_nth h);
    pending_after = λ k x h. absurd (no_nth h);
    done_after = λ i x h. absurd (no_nth h);
    answers = λ k x h. absurd (no_nth h);
  };
  sources = λ i x h. absurd (no_nth h);
  times = record { past = λ k x h. absurd (no_nth h); rise = λ i x h. absurd (no_nth h) };
  epochs = record {
    placed = λ p e f. absurd (never (sym f));
    ordered = λ p e f. absurd (never (sym f));
    copied = λ p e f. absurd (never (sym f));
    apart = λ p e f. absurd (never (sym f));
    spanned = λ X m. absurd (nowhere X m);
    ended_with = λ X m. absurd (nowhere X m);
    stored = λ k x h. absurd (no_nth h);
    loaded = λ k x h. absurd (no_nth h);
  };
  started = λ p e f. absurd (never (sym f));
}
  where
    nowhere : (X : Ended) → Past [] [] [] X → ⊥
    nowhere X = ⊎_elim (λ m. m) (⊎_elim (λ m. m) (λ m. m))

new_watch_holds : (R : Rule) (n m : ℕ) → m ≡ places → WatchHolds R [] (λ t. []) (λ p. 0) (replicate n idle) (replicate m unused) [] [] 0
new_watch_holds R n m e = record {
  judged = [];
  each_thread = λ t. subst (λ w. ThreadHolds R [] [] (λ p. (get_or (replicate m unused) p unused).begun) (Past [] [] []) t w) (sym (filled n t idle)) (new_thread_holds R _ t);
  values = record { in_order = tt; value = λ p. ap (λ (h : Home). h.value) (filled m p unused); write_end = λ w k. absurd k; read_end = λ w k. absurd k };
  started = λ X k. absurd (⊎_elim (λ u. u) (⊎_elim (λ u. u) (λ u. u)) k);
  rising = tt;
  below = λ X k. absurd k;
  long = length-replicate m unused ∙ e;
}

-- What holds of every watch and the trace that it has met.
pub stands : (R : Rule) (n : ℕ) {tr : Trace} {s : State} → Follows R n tr s → Stands R tr s
stands R n new = new_watch_holds R n places refl
stands R n (met {tr = tr} {s = s} f c) = meets R tr s s.verdict (stands R n f) c

pub shown : (R : Rule) (n : ℕ) (tr : Trace) (s : State) → Follows R n tr s → is_clean tr ≡ true → Shown R (λ t. program t tr) (performs tr) (starting tr)
shown R n tr s f c = subst (λ v. StandsBy v R tr s) (verdict_is_clean R n tr s f c) (stands R n f)

pub clean_is_consistent : CleanIsConsistent
clean_is_consistent R n tr s f c = (shown R n tr s f c).consistent

pub clean_keeps_places : CleanKeepsPlaces
clean_keeps_places R n tr s f c = (shown R n tr s f c).places

pub clean_performs_all : CleanPerformsAll
clean_performs_all R n tr s f c = (shown R n tr s f c).all_performed

pub clean_copies_are_latest : CleanCopiesAreLatest
clean_copies_are_latest R n tr s f c = (shown R n tr s f c).copies

-- For the contract of a close: one that answers clean makes the trace with it consistent.
pub close_promises : CloseIsConsistent
close_promises R n tr s f e = clean_is_consistent R n (met_with R s close ∷ tr) (step (by_rule R) s close).state (met f close) (ap (λ a. says_clean a || is_clean tr) e)
