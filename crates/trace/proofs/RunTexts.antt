-- The run of the events after a setup is the run of the text. Assumes nothing.
use Rattle.std.proofs.Common.{◌≡◌, ℕ, List, None, Ok, Err, Option, Result, MatchResult, is_ok, sym, ap, ◌∙◌, subst, arith}
use Rattle.ordering.specs.Named.{named_orders}
use Rattle.ordering.specs.declared.named.NamedRule.{NamedRule}
use Rattle.semantics.specs.declared.verdict.Refusal.{Refusal}
use Rattle.semantics.specs.Laws.{by_rule}
use Rattle.semantics.specs.Lists.{first_of}
use Rattle.semantics.specs.Refusals.{making_checks}
use Rattle.semantics.specs.State.{State, made}
use Rattle.setup.specs.declared.setup.Setup.{Setup}
use Rattle.text.specs.Texts.{Reading, sets, reading}
use Rattle.trace.specs.declared.fault.RunFault.{RunFault}
use Rattle.trace.specs.Promises.{ConsistentIfClean}
use Rattle.trace.specs.Runs.{run, rule_of, set_rule, made_by, run_all, run_text}
use Rattle.trace.proofs.CleanTexts.{clean_text_is_consistent}

module _ (bytes : List ℕ) (x : Setup) (r : Reading) (rule : NamedRule) (n : ℕ) (s : State) (z : Result ℕ RunFault) where
  pub ran : reading bytes ≡ sets x r → first_of (making_checks x.threads) ≡ None → n ≡ x.threads → rule ≡ rule_of x.rule → s ≡ made n →
      z ≡ run (by_rule (named_orders rule)) s 3 r → z ≡ run_text bytes
  ran told free threads named new e =
      e
      ∙ (ap (λ q. run (by_rule (named_orders q)) s 3 r) named
      ∙ (ap (λ q. run (by_rule (set_rule x)) q 3 r) (new ∙ ap made threads)
      ∙ (sym (ap (λ (o : Option Refusal). made_by o (run (by_rule (set_rule x)) (made x.threads) 3 r)) free)
      ∙ sym (ap run_all told))))

-- A result whose error was put into another is as it was where it gave something.
pub gave : {T E D : Type 0} (r : Result T E) (z : Result T D) (t : T) (Q : E → Type 0) → z ≡ Ok t → is_ok z ≡ is_ok r → MatchResult r (λ x. z ≡ Ok x) Q → r ≡ Ok t
gave (Ok x) z t Q given same now = grind arith
gave (Err f) z t Q given same now = absurd (grind arith)

-- A result that is the text's carries its promise.
pub carries : (bytes : List ℕ) (z : Result ℕ RunFault) → z ≡ run_text bytes → ConsistentIfClean bytes z
carries bytes z e = subst (ConsistentIfClean bytes) (sym e) (clean_text_is_consistent bytes)
