-- The safe time is the greatest lower bound of the watch's times. Assumes nothing.
use Rattle.std.proofs.Common.{◌≡◌, ℕ, zero, suc, ◌+◌, ◌<◌, ◌≤◌, min, ltb, ◌⊎◌, List, [], ◌∷◌, ◌++◌, length, get_or, set, sym, refl, ap, ◌∙◌, subst, inl, inr, le_of_suc-le-suc, not-suc-le-zero, arith, map}
use Rattle.std.proofs.lemmas.Bool.{ltb-false, le-ltb, cases_eq, cases_lt}
use Rattle.std.proofs.lemmas.List.{get_or-set_same, get_or-set_other, length-set, set_past}
use Rattle.std.specs.List.{flat_map, fold}
use Rattle.semantics.specs.declared.row.Ended.{Ended}
use Rattle.semantics.specs.Judging.{times, safe}
use Rattle.semantics.specs.Lists.{least_of}
use Rattle.semantics.specs.State.{State, Thread, idle}
use Rattle.accounts.specs.Lists.{count, one_if, All}
use Rattle.accounts.proofs.Counting.{all_map, all_left, all_right, all_append, none_count, count_none}

-- b is at or below every clock, and every begin of an open or owed epoch
pub record Lower (b : ℕ) (ws : List Thread) (os : List Ended) : Type 0 where
  pub clocks : (t : ℕ) → t < length ws → b ≤ (get_or ws t idle).clock
  pub opens : (t : ℕ) → count (λ e. ltb e.from b) (get_or ws t idle).epochs ≡ 0
  pub owed : count (λ e. ltb e.from b) os ≡ 0

abbrev pub LowerIn : ℕ → State → Type 0
LowerIn b s = Lower b s.threads s.owed

least_le : (m : ℕ) (xs : List ℕ) → (fold min m xs ≤ m) × All (λ x. fold min m xs ≤ x) xs
least_le m [] = (omega arith, tt)
least_le m (x ∷ xs) = let i = least_le (min m x) xs in (omega arith, (omega arith, i.1))

least_ge : (b m : ℕ) (xs : List ℕ) → b ≤ m → All (λ x. b ≤ x) xs → b ≤ fold min m xs
least_ge b m [] h k = h
least_ge b m (x ∷ xs) h k = least_ge b (min m x) xs (let q = k.0 in omega arith) k.1

least_of_le : (xs : List ℕ) → All (λ x. least_of xs ≤ x) xs
least_of_le [] = tt
least_of_le (x ∷ xs) = least_le x xs

least_of_ge : (b : ℕ) (xs : List ℕ) → 0 < length xs → All (λ x. b ≤ x) xs → b ≤ least_of xs
least_of_ge b [] l h = absurd (not-suc-le-zero l)
least_of_ge b (x ∷ xs) l h = least_ge b x xs h.0 h.1

module _ {A : Type 0} (f : A → ℕ) (b : ℕ) where
  count_of : (xs : List A) → All (λ x. b ≤ x) (map f xs) → count (λ x. ltb (f x) b) xs ≡ 0
  count_of [] h = refl
  count_of (x ∷ xs) h = let i = count_of xs h.1 in ap (λ c. one_if c + count (λ x. ltb (f x) b) xs) (le-ltb (f x) b h.0) ∙ omega arith

  of_count : (xs : List A) → count (λ x. ltb (f x) b) xs ≡ 0 → All (λ x. b ≤ x) (map f xs)
  of_count [] h = tt
  of_count (x ∷ xs) h = (ltb-false (f x) b (none_count (λ x. ltb (f x) b) (x ∷ xs) h).0, of_count xs (omega arith))

-- from a bound on the list of times, and back
abbrev times_of : Thread → List ℕ
times_of w = w.clock ∷ map (λ e. e.from) w.epochs

clocks_of : (b : ℕ) (ws : List Thread) → All (λ x. b ≤ x) (flat_map times_of ws) → (t : ℕ) → t < length ws → b ≤ (get_or ws t idle).clock
clocks_of b [] h t l = absurd (not-suc-le-zero l)
clocks_of b (w ∷ ws) h zero l = h.0
clocks_of b (w ∷ ws) h (suc t) l = clocks_of b ws (all_right (λ x. b ≤ x) (times_of w) (flat_map times_of ws) h) t (le_of_suc-le-suc l)

opens_of : (b : ℕ) (ws : List Thread) → All (λ x. b ≤ x) (flat_map times_of ws) → (t : ℕ) → count (λ e. ltb e.from b) (get_or ws t idle).epochs ≡ 0
opens_of b [] h t = refl
opens_of b (w ∷ ws) h zero = count_of (λ e. e.from) b w.epochs (all_left (λ x. b ≤ x) (times_of w) (flat_map times_of ws) h).1
opens_of b (w ∷ ws) h (suc t) = opens_of b ws (all_right (λ x. b ≤ x) (times_of w) (flat_map times_of ws) h) t

of_threads : (b : ℕ) (ws : List Thread) → ((t : ℕ) → t < length ws → b ≤ (get_or ws t idle).clock) → ((t : ℕ) → count (λ e. ltb e.from b) (get_or ws t idle).epochs ≡ 0) → All (λ x. b ≤ x) (flat_map times_of ws)
of_threads b [] c o = tt
of_threads b (w ∷ ws) c o = all_append (λ x. b ≤ x) (times_of w) (flat_map times_of ws) (c 0 (omega arith), of_count (λ e. e.from) b w.epochs (o 0)) (of_threads b ws (λ t l. c (suc t) (omega arith)) (λ t. o (suc t)))

pub lower_safe : (s : State) → LowerIn (safe s) s
lower_safe s =
    let b = safe s in
    let ts = flat_map times_of s.threads in
    let os = map (λ e. e.from) s.owed in
    let h : All (λ x. b ≤ x) (ts ++ os) = least_of_le (times s) in
    let k : All (λ x. b ≤ x) ts = all_left (λ x. b ≤ x) ts os h in
    record { clocks = clocks_of b s.threads k; opens = opens_of b s.threads k; owed = count_of (λ e. e.from) b s.owed (all_right (λ x. b ≤ x) ts os h) }

pub safe_greatest : (b : ℕ) (s : State) → 0 < length s.threads → LowerIn b s → b ≤ safe s
safe_greatest b s l h =
    least_of_ge b (times s) (long s.threads l)
    (all_append (λ x. b ≤ x) (flat_map times_of s.threads) (map (λ e. e.from) s.owed) (of_threads b s.threads h.clocks h.opens) (of_count (λ e. e.from) b s.owed h.owed))
  where
    long : (ws : List Thread) → 0 < length ws → 0 < length (flat_map times_of ws ++ map (λ e. e.from) s.owed)
    long [] l = absurd (not-suc-le-zero l)
    long (w ∷ ws) l = omega arith

pub lower_less : (a b : ℕ) (ws : List Thread) (os : List Ended) → a ≤ b → Lower b ws os → Lower a ws os
lower_less a b ws os l h = record {
  clocks = λ t k. let q = h.clocks t k in omega arith;
  opens = λ t. less (λ e. e.from) (get_or ws t idle).epochs (h.opens t);
  owed = less (λ e. e.from) os h.owed;
}
  where
    less : {A : Type 0} (f : A → ℕ) (xs : List A) → count (λ x. ltb (f x) b) xs ≡ 0 → count (λ x. ltb (f x) a) xs ≡ 0
    less f xs h = count_none (λ x. ltb (f x) a) xs (all_map xs (λ x e. le-ltb (f x) a (let q = ltb-false (f x) b e in omega arith)) (none_count (λ x. ltb (f x) b) xs h))

-- a thread that is not set back
pub lower_set : (b : ℕ) (ws : List Thread) (os : List Ended) (t : ℕ) (w : Thread) → Lower b ws os → (t < length ws → b ≤ w.clock)
    → count (λ e. ltb e.from b) w.epochs ≡ 0 → Lower b (set ws t w) os
lower_set b ws os t w h c o = record { clocks = λ u l. clock u (cases_eq u t) (subst (λ n. u < n) (length-set ws t w) l); opens = λ u. open_u u (cases_eq u t); owed = h.owed }
  where
    clock : (u : ℕ) → (u ≡ t) ⊎ (u ≡ t → ⊥) → u < length ws → b ≤ (get_or (set ws t w) u idle).clock
    clock u (inl e) l = let k : t < length ws = subst (λ x. x < length ws) e l in subst (λ x. b ≤ (get_or (set ws t w) x idle).clock) (sym e) (subst (λ x. b ≤ x.clock) (sym (get_or-set_same ws t w idle k)) (c k))
    clock u (inr n) l = subst (λ x. b ≤ x.clock) (sym (get_or-set_other ws t u w idle n)) (h.clocks u l)

    past : length ws ≤ t → set ws t w ≡ ws
    past l = set_past ws t w l

    open_u : (u : ℕ) → (u ≡ t) ⊎ (u ≡ t → ⊥) → count (λ e. ltb e.from b) (get_or (set ws t w) u idle).epochs ≡ 0
    open_u u (inl e) = subst (λ x. count (λ e. ltb e.from b) (get_or (set ws t w) x idle).epochs ≡ 0) (sym e) (at (cases_lt t (length ws)))
      where
        at : (t < length ws) ⊎ (length ws ≤ t) → count (λ e. ltb e.from b) (get_or (set ws t w) t idle).epochs ≡ 0
        at (inl l) = ap (λ x. count (λ e. ltb e.from b) x.epochs) (get_or-set_same ws t w idle l) ∙ o
        at (inr l) = ap (λ x. count (λ e. ltb e.from b) (get_or x t idle).epochs) (past l) ∙ h.opens t
    open_u u (inr n) = ap (λ x. count (λ e. ltb e.from b) x.epochs) (get_or-set_other ws t u w idle n) ∙ h.opens u
