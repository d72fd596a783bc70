-- Tables of cases: calls that a watch meets, with the answers that they get. Assumes nothing.
use Rattle.std.specs.Prelude.{◌≡◌, ℕ, List, [], ◌∷◌, map}
use Rattle.ordering.specs.Named.{named_orders}
use Rattle.ordering.specs.declared.named.NamedRule.{NamedRule}
use Rattle.semantics.specs.Calls.{Call}
use Rattle.semantics.specs.Laws.{Precedes, by_rule}
use Rattle.cases.specs.Records.{Shown, shown}
use Rattle.semantics.specs.State.{State, made}
use Rattle.semantics.specs.Step.{step, answers}

abbrev pub precedes : NamedRule → Precedes
precedes r = by_rule (named_orders r)

-- Calls that a watch in some state meets, and what they answer.
pub record Case : Type 0 where
  pub rule : NamedRule
  pub from : State
  pub calls : List Call
  pub answer : List Shown

abbrev pub case_at : NamedRule → State → List Call → List Shown → Case
case_at r s cs xs = record { rule = r; from = s; calls = cs; answer = xs }

-- Calls of a new watch.
abbrev pub case : NamedRule → ℕ → List Call → List Shown → Case
case r n = case_at r (made n)

abbrev pub Agrees : Case → Type 0
Agrees c = map shown (answers (precedes c.rule) c.from c.calls) ≡ c.answer

abbrev pub AllAgree : List Case → Type 0
AllAgree [] = Unit {0}
AllAgree (c ∷ cs) = Agrees c × AllAgree cs

-- The state after calls.
abbrev pub after : NamedRule → State → List Call → State
after r s [] = s
after r s (c ∷ cs) = after r (step (precedes r) s c).state cs
