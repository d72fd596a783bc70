-- Rows that don't pass go in one pass, and blank ones stand behind those that stay. Assumes nothing.
use Rattle.std.proofs.Common.{◌≡◌, ℕ, ◌+◌, ◌-◌, ◌≤◌, Bool, List, ◌++◌, length, take, drop, replicate, filter, sym, ap, ◌∙◌, arith, length-take-le, length-append, length-drop}
use Rattle.std.proofs.lemmas.List.{take_at, drop_at, drop-drop, length-replicate, replicate-append-replicate}
use Rattle.std.proofs.lemmas.List.Filters.{FiltersInPlace}
use Rattle.thread.specs.Rows.{IsFilled}
use Rattle.thread.proofs.Lists.{filter_le}

pub passed_few : {A : Type 0} (p : A → Bool) (xs : List A) (n i : ℕ) → n ≡ length (filter p (take i xs)) → i ≤ length xs → n ≤ i
passed_few p xs n i e l = let few = filter_le p (take i xs) in let all = length-take-le i xs l in omega (arith, e, few, all)

cut_behind : {A : Type 0} (xs : List A) (n k : ℕ) → n ≤ k → drop (k - n) (drop n xs) ≡ drop k xs
cut_behind xs n k l = drop-drop (k - n) n xs ∙ ap (λ m. drop m xs) (omega (arith, l))

-- Blank ones are put between what passed and what the pass did not reach.
pub passed_blanks : {A : Type 0} {p : A → Bool} {xs ys : List A} {n k : ℕ} → FiltersInPlace p xs ys n k → (b : A) (zs : List A) → zs ≡ replicate (length (take (k - n) (drop n ys))) b
    → take n ys ++ (zs ++ drop (k - n) (drop n ys)) ≡ filter p (take k xs) ++ (replicate (k - n) b ++ drop k xs)
passed_blanks {p = p} {xs = xs} {ys = ys} {n = n} {k = k} f b zs e =
    let l = f.behind in
    let w = f.within in
    let long = f.long in
    let rest = length-drop n ys in
    let m : length (take (k - n) (drop n ys)) ≡ k - n = length-take-le (k - n) (drop n ys) (omega (arith, rest, l, w, long)) in
    λ j. f.front j ++ ((e ∙ ap (λ z. replicate z b) m) j ++ (cut_behind ys n k l ∙ f.rest) j)

-- What the pass leaves is filled.
module _ {A : Type 0} {b : A} {m k : ℕ} {xs : List A} (f : IsFilled b m k xs) (p : A → Bool) (n : ℕ) (e : n ≡ length (filter p (take k xs))) where
  pub passed_rows : (zs : List A) → take n (filter p (take k xs) ++ zs) ≡ filter p (take k xs)
  passed_rows zs = take_at (filter p (take k xs)) zs n (sym e)

  pub filled_passed : (c : A) → c ≡ b → IsFilled b m n (filter p (take k xs) ++ (replicate (k - n) c ++ drop k xs))
  filled_passed c q =
      let fits = f.fits in
      let long = f.long in
      let few = passed_few p xs n k e (omega (arith, fits, long)) in
      let behind = length-drop k xs in
      let blank = length-replicate (k - n) c in
      let rows = length-append (filter p (take k xs)) (replicate (k - n) c ++ drop k xs) in
      let others = length-append (replicate (k - n) c) (drop k xs) in
      let all : k - n + (m - k) ≡ m - n = omega (arith, fits, few) in
      record {
        fits = omega (arith, fits, few);
        long = omega (arith, rows, others, behind, blank, long, fits, few, e);
        rest = drop_at (filter p (take k xs)) (replicate (k - n) c ++ drop k xs) n (sym e) ∙ (λ j. replicate (k - n) (q j) ++ f.rest j)
            ∙ replicate-append-replicate (k - n) (m - k) b ∙ ap (λ z. replicate z b) all;
      }
