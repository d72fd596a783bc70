-- Bytes that are no rule's name name no rule. Assumes nothing.
use Rattle.std.proofs.Common.{◌≡◌, ℕ, List, [], ◌∷◌, None, refl, ◌∙◌, inl, inr}
use Rattle.std.specs.Str.{bytes_eq}
use Rattle.std.proofs.lemmas.Bool.{cond-false, cases_Bool}
use Rattle.std.proofs.lemmas.Slice.Eq.{bytes_eq-Decides}
use Rattle.ordering.specs.declared.named.NamedRule.{NamedRule}
use Rattle.ordering.specs.declared.named.NamedRule.TheVariants.{Sc, Tso, Pso, Rmo}
use Rattle.ordering.specs.Names.{name_of, named_among, rule_named}

-- Bytes that are no rule's name are the name of none of some rules.
named_among_none : (rs : List NamedRule) (bytes : List ℕ) → ((r : NamedRule) → bytes ≡ name_of r → ⊥) → named_among rs bytes ≡ None
named_among_none [] bytes unnamed = refl
named_among_none (r ∷ rs) bytes unnamed =
    elim (cases_Bool (bytes_eq bytes (name_of r))) [
      | inl e ↦ absurd (unnamed r ((bytes_eq-Decides bytes (name_of r)).0 e))
      | inr e ↦ cond-false _ _ _ e ∙ named_among_none rs bytes unnamed
    ]

-- Bytes that are no rule's name name no rule.
pub named_none : (bytes : List ℕ) → ((r : NamedRule) → bytes ≡ name_of r → ⊥) → rule_named bytes ≡ None
named_none bytes unnamed = named_among_none (Sc ∷ Tso ∷ Pso ∷ Rmo ∷ []) bytes unnamed
