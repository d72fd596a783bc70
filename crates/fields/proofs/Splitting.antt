-- A text and its parts between the bytes m. Assumes nothing.
use Rattle.std.proofs.Common.{◌≡◌, ℕ, ◌+◌, ◌-◌, ◌<◌, Bool, true, false, cond, ltb, List, [], ◌∷◌, ◌++◌, length, get_or, take, drop, Some, None, sym, refl, ap, ◌∙◌, subst, add-one, true≢false, arith, take-append-drop, length-take-le, drop-cons, get_or-take}
use Rattle.std.specs.Prelude.{◌==◌}
use Rattle.std.specs.List.{position, position_or_len, between, All}
use Rattle.std.specs.Str.Iter.{LacksByte}
use Rattle.std.proofs.lemmas.Bool.{eq-eqb, ne_eqb, ltb-false}
use Rattle.std.proofs.lemmas.Slice.{between_to_end}
use Rattle.std.proofs.lemmas.List.Elements.{All-from_get_or}
use Rattle.std.proofs.lemmas.List.Quantifiers.{position-Some}
use Rattle.std.proofs.lemmas.List.Sums.{position_or_len_is, fails_before_first}
use Rattle.std.proofs.lemmas.List.Splits.{slice_split_at, slice_split_first, slice_split_none, length-slice_split}
use Rattle.fields.specs.Splits.{split}

cut_at : (m : ℕ) (s : List ℕ) (i : ℕ) → i < length s → get_or s i 0 ≡ m → s ≡ take i s ++ (m ∷ drop (i + 1) s)
cut_at m s i h e = sym (take-append-drop i s) ∙ ap (λ t. take i s ++ t) (drop-cons s i 0 h ∙ (λ k. e k ∷ drop (sym (add-one i) k) s))

-- a text cut at its first m, which is at i, by two slices
pub cut_parts : (m : ℕ) (s : List ℕ) (i : ℕ) → i < length s → get_or s i 0 ≡ m → ((k : ℕ) → k < i → get_or s k 0 ≡ m → ⊥) → (s ≡ take (i - 0) s ++ (m ∷ between (i + 1) (length s) s)) × LacksByte m (take (i - 0) s)
cut_parts m s i h e before =
    let z : i - 0 ≡ i = omega arith in
    let whole : s ≡ take i s ++ (m ∷ between (i + 1) (length s) s) = cut_at m s i h e ∙ ap (λ t. take i s ++ (m ∷ t)) (sym (between_to_end s (i + 1) (length s) (omega arith))) in
    let lacks : LacksByte m (take i s) = λ k lt at. let small : k < i = omega (arith, length-take-le i s (omega arith)) in before k small (sym (get_or-take i s k 0 small) ∙ at) in
    (subst (λ n. s ≡ take n s ++ (m ∷ between (i + 1) (length s) s)) (sym z) whole, subst (λ n. LacksByte m (take n s)) (sym z) lacks)

all_from_lacks : (m : ℕ) (f : List ℕ) → LacksByte m f → All (λ b. (b == m) ≡ false) f
all_from_lacks m f h = All-from_get_or (λ b. (b == m) ≡ false) f 0 (λ k lt. ne_eqb _ m (h k lt))

-- what stands before the first m is the first part
pub split_front : (m : ℕ) (f s : List ℕ) → LacksByte m f → split m (f ++ (m ∷ s)) ≡ f ∷ split m s
split_front m f s h = slice_split_at (λ b. b == m) f m s (all_from_lacks m f h) (eq-eqb m m refl)

pub split_last : (m : ℕ) (f : List ℕ) → LacksByte m f → split m f ≡ f ∷ []
split_last m f h = slice_split_none (λ b. b == m) f (all_from_lacks m f h)

pub split_some : (m : ℕ) (s : List ℕ) → 0 < length (split m s)
split_some m s = omega (arith, length-slice_split (λ b. b == m) s)

-- a text whose first m is at i
pub split_at : (m : ℕ) (s : List ℕ) (i : ℕ) → position (λ b. b == m) s ≡ Some i → split m s ≡ take i s ∷ split m (drop (i + 1) s)
split_at m s i h =
    let at = position-Some (λ b. b == m) s i 0 h in
    let same : position_or_len (λ b. b == m) s ≡ i = position_or_len_is (λ b. b == m) s i 0 (omega (arith, at.0)) at.2 (λ _. at.1) in
    slice_split_first (λ b. b == m) s 0 (omega (arith, same, at.0)) ∙ ap (λ k. take k s ∷ split m (drop (k + 1) s)) same

-- a text without m
pub split_without : (m : ℕ) (s : List ℕ) → position (λ b. b == m) s ≡ None → split m s ≡ s ∷ []
split_without m s h = slice_split_none (λ b. b == m) s (by (ltb (position_or_len (λ b. b == m) s) (length s)) refl h)
  where
    by : (t : Bool) → ltb (position_or_len (λ b. b == m) s) (length s) ≡ t → cond t (Some (position_or_len (λ b. b == m) s)) None ≡ None → All (λ b. (b == m) ≡ false) s
    by true e k = absurd (true≢false (ap (λ o. elim o [ None ↦ false | Some y ↦ true ]) k))
    by false e k = λ j d l. fails_before_first (λ b. b == m) s j d (omega (arith, ltb-false _ _ e, l))
