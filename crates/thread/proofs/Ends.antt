-- The laws of an end, by what was found. Assumes nothing.
use Rattle.std.proofs.Common.{◌≡◌, ℕ, ◌<◌, ◌≤◌, cond, [], ◌∷◌, Some, None, ap, ◌∙◌}
use Rattle.std.proofs.lemmas.Bool.{le-ltb, lt-ltb, eq-eqb, ne_eqb}
use Rattle.semantics.specs.declared.row.Epoch.{Epoch}
use Rattle.semantics.specs.declared.verdict.Conviction.{Conviction}
use Rattle.semantics.specs.declared.verdict.Law.TheVariants.{EndTooEarly, WrongEndValue}
use Rattle.semantics.specs.Laws.{law26, end_laws}
use Rattle.semantics.specs.Lists.{first_some}

module _ (t : ℕ) (e : Epoch) (v τ : ℕ) where
  abbrev early : Conviction
  early = record { law = EndTooEarly; thread = t; number = e.place; other = e.used }

  abbrev wrong : Conviction
  wrong = record { law = WrongEndValue; thread = t; number = e.place; other = e.copy }

  pub ends_early : τ ≤ e.used → end_laws t e v τ ≡ Some early
  ends_early l = ap (λ b. first_some (cond b None (Some early) ∷ law26 t e v ∷ [])) (le-ltb e.used τ l)

  in_time : e.used < τ → end_laws t e v τ ≡ first_some (law26 t e v ∷ [])
  in_time l = ap (λ b. first_some (cond b None (Some early) ∷ law26 t e v ∷ [])) (lt-ltb e.used τ l)

  pub ends_wrong : e.used < τ → (v ≡ e.copy → ⊥) → end_laws t e v τ ≡ Some wrong
  ends_wrong l n = in_time l ∙ ap (λ b. first_some (cond b None (Some wrong) ∷ [])) (ne_eqb v e.copy n)

  pub ends_lawful : e.used < τ → v ≡ e.copy → end_laws t e v τ ≡ None
  ends_lawful l q = in_time l ∙ ap (λ b. first_some (cond b None (Some wrong) ∷ [])) (eq-eqb v e.copy q)
