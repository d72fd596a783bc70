-- What is found among the items of a chain. Assumes nothing.
use Rattle.std.proofs.Common.{◌≡◌, ℕ, ◌≤◌, List, [], ◌∷◌, length, map, Some, None, Option, MatchOption, refl, ap, sym, ◌∙◌}
use Rattle.std.specs.Iterator.{Drains, YieldsThen}
use Rattle.std.specs.List.{last_or, slice_get}
use Rattle.std.specs.Option.{option_map}
use Rattle.std.proofs.lemmas.Iterator.{YieldsList, items_from_drains}
use Rattle.std.proofs.lemmas.Iterator.Adapters.{option_map_id}
use Rattle.std.proofs.lemmas.Iterator.Consumers.{nth_from_yields_List}
use Rattle.std.proofs.lemmas.List.{map-id}

module _ {S A : Type 0} {steps : S → Option A → S → Type 0} {s : S} {all : List A} where
  -- The item under a number.
  pub nth_found : (r : Option A) (u : S) (n : ℕ) → ((xs : List A) × YieldsThen steps s xs r u × MatchOption r (length xs ≤ n) (λ _. length xs ≡ n)) →
      YieldsList steps (λ x. x) s all → r ≡ slice_get all n
  nth_found r u n ran given = sym (option_map_id r) ∙ nth_from_yields_List r u n ran given

  -- The last item.
  pub last_found : (r : Option A) → ((xs : List A) × Drains steps s xs × (r ≡ last_or None xs)) → YieldsList steps (λ x. x) s all → r ≡ last_or None all
  last_found r (xs, (u, (t, yields, end)), last) given = last ∙ ap (last_or None) (sym (map-id xs) ∙ items_from_drains xs (t, yields, (λ _. (u, end))) given)
