-- All that pass stand in front, up to the last of them. Assumes nothing.
use Rattle.std.proofs.Common.{◌≡◌, ℕ, suc, ◌+◌, ◌-◌, ◌<◌, Bool, false, cond, List, [], ◌∷◌, ◌++◌, length, get_or, take, drop, reverse, filter, Some, None, Option, refl, ap, sym, ◌∙◌, arith, take-append-drop, length-drop}
use Rattle.std.specs.List.{position}
use Rattle.std.specs.Option.{unwrap_or}
use Rattle.std.proofs.lemmas.List.{append-nil, length-reverse, get_or-drop, get_or-reverse}
use Rattle.std.proofs.lemmas.List.Elements.{filter-append}
use Rattle.std.proofs.lemmas.List.Quantifiers.{position-Some}
use Rattle.std.proofs.lemmas.Option.{none-some}
use Rattle.semantics.specs.Lists.{last_of}
use Rattle.thread.proofs.Lists.{find_reverse, none_from_position}

none_passes : {A : Type 0} (q : A → Bool) (ys : List A) → ((j : ℕ) (d : A) → j < length ys → q (get_or ys j d) ≡ false) → filter q ys ≡ []
none_passes q [] h = refl
none_passes q (y ∷ ys) h = ap (λ b. cond b (y ∷ filter q ys) (filter q ys)) (h 0 y (omega arith)) ∙ none_passes q ys (λ j d l. h (suc j) d (omega (arith, l)))

behind : {A : Type 0} (q : A → Bool) (xs : List A) (i : ℕ) → position q (reverse xs) ≡ Some i → filter q (drop (length xs - i) xs) ≡ []
behind {A} q xs i e = none_passes q (drop (length xs - i) xs) fails
  where
    fails : (j : ℕ) (d : A) → j < length (drop (length xs - i) xs) → q (get_or (drop (length xs - i) xs) j d) ≡ false
    fails j d l =
        let at = position-Some q (reverse xs) i d e in
        let within = at.0 in
        let n = length-reverse xs in
        let m = length-drop (length xs - i) xs in
        let k : length xs - i + j ≡ length xs - 1 - (i - 1 - j) = omega (arith, within, n, m, l) in
        ap q (get_or-drop (length xs - i) xs j d ∙ ap (λ z. get_or xs z d) k ∙ sym (get_or-reverse xs (i - 1 - j) d (omega (arith, within, n, m, l)))) ∙ at.2 (i - 1 - j) (omega (arith, within, n, m, l))

nothing : {A : Type 0} (ys : List A) → last_of ys ≡ None → ys ≡ []
nothing [] e = refl
nothing {A} (y ∷ ys) e = by (last_of ys) e
  where
    by : (o : Option A) → ◌≡◌ {A = Option A} (elim o [ None ↦ Some y | Some z ↦ Some z ]) None → y ∷ ys ≡ []
    by None e = absurd (none-some y (sym e))
    by (Some z) e = absurd (none-some z (sym e))

-- The rows up to the last that passes, which is looked for from the end, hold each that passes.
pub front_holds : {A : Type 0} (q : A → Bool) (xs : List A) (r : Option ℕ) → r ≡ position q (reverse xs) → filter q (take (length xs - unwrap_or r (length xs)) xs) ≡ filter q xs
front_holds q xs None e =
    let m : length xs - length xs ≡ 0 = omega arith in
    ap (λ z. filter q (take z xs)) m ∙ sym (nothing (filter q xs) (sym (find_reverse q xs) ∙ none_from_position q (reverse xs) (sym e)))
front_holds q xs (Some i) e =
    let m = length xs - i in
    sym (ap (filter q) (sym (take-append-drop m xs)) ∙ filter-append q (take m xs) (drop m xs) ∙ ap (λ zs. filter q (take m xs) ++ zs) (behind q xs i (sym e)) ∙ append-nil (filter q (take m xs)))
