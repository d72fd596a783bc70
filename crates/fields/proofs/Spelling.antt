-- A word is looked up by just the bytes that spell it. Assumes nothing.
use Rattle.std.proofs.Common.{◌≡◌, ℕ, List, [], ◌∷◌, Some, None, Ok, Err, Option, Result, IsUtf8, MatchOption, true≢false, sym, refl, ap, ◌∙◌, subst, inl, inr, arith}
use Rattle.std.specs.Option.{ok_or}
use Rattle.std.specs.Result.{is_ok}
use Rattle.std.specs.Str.{bytes_eq}
use Rattle.std.proofs.lemmas.Bool.{cond-true, cond-false, cases_Bool}
use Rattle.std.proofs.lemmas.Slice.Eq.{bytes_eq-Decides}
use Rattle.fields.specs.Words.{among}
use Rattle.fields.specs.Parses.{ParsesNone}
use Rattle.fields.proofs.Stepping.{some_from_ok_or}

module _ {N : Type 0} (spells : N → List ℕ) where
  -- bytes that spell nothing are found nowhere
  pub among_none : (ns : List N) (bs : List ℕ) → ((n : N) → bs ≡ spells n → ⊥) → among spells ns bs ≡ None
  among_none [] bs no_name = refl
  among_none (n ∷ ns) bs no_name =
      elim (cases_Bool (bytes_eq bs (spells n))) [
        | inl e ↦ absurd (no_name n ((bytes_eq-Decides bs (spells n)).0 e))
        | inr e ↦ cond-false _ _ _ e ∙ among_none ns bs no_name
      ]

  -- what is found is what the bytes spell
  pub spelled_among : (ns : List N) (bs : List ℕ) (m : N) → among spells ns bs ≡ Some m → bs ≡ spells m
  spelled_among [] bs m e = let z : ◌≡◌ {A = ℕ} 0 1 = cc in absurd (omega arith)
  spelled_among (n ∷ ns) bs m e =
      elim (cases_Bool (bytes_eq bs (spells n))) [
        | inl t ↦ (let s = (bytes_eq-Decides bs (spells n)).0 t in let f = cond-true (bytes_eq bs (spells n)) (Some n) (among spells ns bs) t in let g : n ≡ m = cc in s ∙ ap spells g)
        | inr t ↦ spelled_among ns bs m (sym (cond-false (bytes_eq bs (spells n)) (Some n) (among spells ns bs) t) ∙ e)
      ]

  -- a field is parsed as what its bytes spell, where each spelling is text
  pub among_from_parse : {E : Type 0} (e : E) (ns : List N) (bs : List ℕ) (r : Option N) → MatchOption r (ParsesNone (λ s x. x ≡ ok_or (among spells ns s) e) bs) (λ n. ◌≡◌ {A = Result N E} (Ok n) (ok_or (among spells ns bs) e)) → ((n : N) → IsUtf8 (spells n)) → r ≡ among spells ns bs
  among_from_parse e ns bs (Some n) h text = sym (some_from_ok_or (among spells ns bs) e n (sym h))
  among_from_parse {E = E} e ns bs None h text = sym (by (among spells ns bs) refl)
    where
      by : (o : Option N) → among spells ns bs ≡ o → o ≡ None
      by None a = refl
      by (Some m) a =
          let refused = h (subst IsUtf8 (sym (spelled_among ns bs m a)) (text m)) in
          let z : ◌≡◌ {A = Result N E} (Err refused.0) (Ok m) = refused.1 ∙ ap (λ o. ok_or o e) a in
          absurd (true≢false (ap is_ok (sym z)))
