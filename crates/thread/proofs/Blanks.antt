-- Rows come and go in the first places of an array, and blank ones stay behind them. Assumes nothing.
use Rattle.std.proofs.Common.{◌≡◌, ℕ, suc, ◌+◌, ◌-◌, ◌<◌, ◌≤◌, List, [], ◌∷◌, ◌++◌, length, take, drop, set, remove, replicate, sym, ap, ◌∙◌, arith, rules, add-one, length-take-le, length-drop, length-set, length-append, append_assoc}
use Rattle.std.proofs.lemmas.List.{drop-replicate, drop-drop, drop-set-lt, drop-take, take-take, take_at, drop_at, set_at, places, same_lists, get_or-set_same}
use Rattle.std.proofs.lemmas.List.Edits.{length-remove}
use Rattle.std.proofs.lemmas.Bool.{cases_eq}
use borrow.Rule.Slice.PartMut.{put_mid}
use Rattle.thread.specs.Rows.{IsFilled, count_given_back}

module _ {A : Type 0} {b : A} {n k : ℕ} {xs : List A} (f : IsFilled b n k xs) where
  -- An index of a row is one of the first places.
  pub below : (ys : List A) (i : ℕ) → take k xs ≡ ys → i < length ys → i < k
  below ys i e l = let c = count_given_back f in let m = ap length e in omega (arith, c, m, l)

  -- One more row is written over a blank one.
  pub filled_push : (ys : List A) (x : A) → take k xs ≡ ys → length ys < n → IsFilled b n (k + 1) (set xs k x)
  filled_push ys x e l = record {
    fits = let c = count_given_back f in let m = ap length e in omega (arith, c, m, l);
    long = length-set xs k x ∙ f.long;
    rest = drop-set-lt (k + 1) xs k x (omega arith) ∙ sym (drop-drop 1 k xs) ∙ ap (drop 1) f.rest ∙ drop-replicate 1 (n - k) b ∙ ap (λ m. replicate m b) (omega arith);
  }

  module _ (i : ℕ) (l : i < k) where
    -- A row is written over another.
    pub filled_set : (x : A) → IsFilled b n k (set xs i x)
    filled_set x = record {
      fits = f.fits;
      long = length-set xs i x ∙ f.long;
      rest = drop-set-lt k xs i x l ∙ f.rest;
    }

    pub take_set : (x : A) → take k (set xs i x) ≡ set (take k xs) i x
    take_set x =
        let fits = f.fits in
        let long = f.long in
        same_lists _ _ (search (rules, places)) (λ j d m. grind (arith, places, get_or-set_same, cases_eq j i))

    -- A row is taken out, and a blank one stands behind what is left.
    fewer : length (remove (take k xs) i) ≡ k - 1
    fewer = let c = count_given_back f in let m = length-remove (take k xs) i (omega (arith, c, l)) in omega (arith, c, m)

    pub take_remove : (x : A) → take (k - 1) (remove (take k xs) i ++ x ∷ drop k xs) ≡ remove (take k xs) i
    take_remove x = take_at (remove (take k xs) i) (x ∷ drop k xs) (k - 1) fewer

    pub filled_remove : (x : A) → x ≡ b → IsFilled b n (k - 1) (remove (take k xs) i ++ x ∷ drop k xs)
    filled_remove x e =
        let fits = f.fits in
        let long = f.long in
        let rest = length-drop k xs in
        let more : suc (n - k) ≡ n - (k - 1) = omega (arith, fits, l) in
        record {
          fits = omega (arith, fits);
          long = length-append (remove (take k xs) i) (x ∷ drop k xs) ∙ omega (arith, fewer, rest, long, fits, l);
          rest = drop_at (remove (take k xs) i) (x ∷ drop k xs) (k - 1) fewer ∙ (λ j. e j ∷ f.rest j) ∙ ap (λ m. replicate m b) more;
        }

-- The first of a part goes behind the others, and another is written over it.
rotated : {A : Type 0} (ps ms rs : List A) (n : ℕ) (x : A) → 0 < length ms → n + 1 ≡ length ps + length ms → set (ps ++ ((drop 1 ms ++ take 1 ms) ++ rs)) n x ≡ (ps ++ drop 1 ms) ++ x ∷ rs
rotated ps [] rs n x l e = absurd (omega arith)
rotated ps (m ∷ ms) rs n x l e =
    ap (λ ys. set (ps ++ ys) n x) (append_assoc ms (m ∷ []) rs) ∙ ap (λ ys. set ys n x) (sym (append_assoc ps ms (m ∷ rs)))
    ∙ set_at (ps ++ ms) m rs x n (let s = length-append ps ms in omega (arith, s, e))

pub rotated_out : {A : Type 0} (xs : List A) (k i : ℕ) (x : A) → i < k → k ≤ length xs
    → set (put_mid i (k - i) xs (drop 1 (take (k - i) (drop i xs)) ++ take 1 (take (k - i) (drop i xs)))) (k - 1) x ≡ remove (take k xs) i ++ x ∷ drop k xs
rotated_out xs k i x l h =
    let front = length-take-le i xs (omega (arith, l, h)) in
    let rest = length-drop i xs in
    let part = length-take-le (k - i) (drop i xs) (omega (arith, rest, l, h)) in
    rotated (take i xs) (take (k - i) (drop i xs)) (drop (k - i) (drop i xs)) (k - 1) x (omega (arith, part, l)) (omega (arith, front, part, l))
    ∙ (λ j. (before j ++ between j) ++ x ∷ behind j)
  where
    before : take i xs ≡ take i (take k xs)
    before = sym (take-take i k xs (omega (arith, l)))

    between : drop 1 (take (k - i) (drop i xs)) ≡ drop (suc i) (take k xs)
    between = ap (drop 1) (sym (drop-take i (k - i) xs)) ∙ drop-drop 1 i (take (i + (k - i)) xs) ∙ ap (λ m. drop m (take (i + (k - i)) xs)) (add-one i) ∙ ap (λ m. drop (suc i) (take m xs)) (omega (arith, l))

    behind : drop (k - i) (drop i xs) ≡ drop k xs
    behind = drop-drop (k - i) i xs ∙ ap (λ m. drop m xs) (omega (arith, l))
