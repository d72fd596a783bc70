-- Judged epochs of a place, one of them a write, stand apart. Assumes nothing.
use Rattle.std.proofs.Common.{◌≡◌, ℕ, ◌<◌, ◌≤◌, max, Bool, true, false, cond, ◌||◌, ◌⊎◌, List, [], ◌∷◌, sym, refl, ap, ◌∙◌, subst, inl, inr, arith}
use Rattle.std.proofs.lemmas.Bool.{cases_eq, eq-eqb, ne_eqb, cond-true, cond-false}
use Rattle.semantics.specs.declared.row.Ended.{Ended}
use Rattle.semantics.specs.declared.row.Home.{Home}
use Rattle.semantics.specs.Judging.{bar, judged_home}
use Rattle.semantics.specs.Puts.{put_value, put_ends}
use Rattle.accounts.specs.Homes.{judged_at, Lawful, Apart}
use Rattle.accounts.specs.Lists.{All}
use Rattle.accounts.proofs.Counting.{all_map}
use Rattle.accounts.proofs.Folding.{law_fits}

-- a home after a write, and after a read
after_a_write : (h : Home) (e : Ended) → e.writes ≡ true → judged_home h e ≡ put_ends (put_value h e.last) h.read_end e.until
after_a_write h e w = cond-true e.writes _ _ w

after_a_read : (h : Home) (e : Ended) → e.writes ≡ false → judged_home h e ≡ put_ends h (max h.read_end e.until) h.write_end
after_a_read h e w = cond-false e.writes _ _ w

-- what is judged there, or left
at_place : (P : Home → Type 0) (p : ℕ) (h : Home) (e : Ended) → (e.place ≡ p → P (judged_home h e)) → P h → P (judged_at p h e)
at_place P p h e there here = by (cases_eq e.place p)
  where
    by : (e.place ≡ p) ⊎ (e.place ≡ p → ⊥) → P (judged_at p h e)
    by (inl q) = subst (λ b. P (cond b (judged_home h e) h)) (sym (eq-eqb e.place p q)) (there q)
    by (inr q) = subst (λ b. P (cond b (judged_home h e) h)) (sym (ne_eqb e.place p q)) here

bar_write : (h : Home) (e : Ended) → h.write_end ≤ bar h e
bar_write h e = by e.writes
  where
    by : (w : Bool) → h.write_end ≤ cond w (max h.read_end h.write_end) h.write_end
    by true = omega arith
    by false = omega arith

bar_read : (h : Home) (e : Ended) → e.writes ≡ true → h.read_end ≤ bar h e
bar_read h e w = subst (λ w. h.read_end ≤ cond w (max h.read_end h.write_end) h.write_end) (sym w) (let g : h.read_end ≤ max h.read_end h.write_end = omega arith in g)

-- an end that a home remembers is not passed by a later begin
module _ (p u : ℕ) where
  after_write : (H : ℕ → Home) (es : List Ended) → Lawful H es → All (λ e. e.from < e.until) es → u ≤ (H p).write_end → All (λ f. p ≡ f.place → u ≤ f.from) es
  after_write H [] f a k = tt
  after_write H (e ∷ es) f a k = (here, after_write (λ q. judged_at q (H q) e) es f.1 a.1 (at_place (λ h. u ≤ h.write_end) p (H p) e (λ q. by e.writes refl q) k))
    where
      here : p ≡ e.place → u ≤ e.from
      here q =
          let g = (law_fits (H e.place) e f.0).0 in
          let m = bar_write (H e.place) e in
          let n : u ≤ (H e.place).write_end = subst (λ q. u ≤ (H q).write_end) q k in omega arith

      by : (w : Bool) → e.writes ≡ w → e.place ≡ p → u ≤ (judged_home (H p) e).write_end
      by true w q = subst (λ x. u ≤ x.write_end) (sym (after_a_write (H p) e w)) (let m = here (sym q) in let n = a.0 in let g : u ≤ e.until = omega arith in g)
      by false w q = subst (λ x. u ≤ x.write_end) (sym (after_a_read (H p) e w)) k

  after_read : (H : ℕ → Home) (es : List Ended) → Lawful H es → u ≤ (H p).read_end → All (λ f. p ≡ f.place → f.writes ≡ true → u ≤ f.from) es
  after_read H [] f k = tt
  after_read H (e ∷ es) f k = (here, after_read (λ q. judged_at q (H q) e) es f.1 (at_place (λ h. u ≤ h.read_end) p (H p) e (λ _. by e.writes refl) k))
    where
      here : p ≡ e.place → e.writes ≡ true → u ≤ e.from
      here q w =
          let g = (law_fits (H e.place) e f.0).0 in
          let m = bar_read (H e.place) e w in
          let n : u ≤ (H e.place).read_end = subst (λ q. u ≤ (H q).read_end) q k in omega arith

      by : (w : Bool) → e.writes ≡ w → u ≤ (judged_home (H p) e).read_end
      by true w = subst (λ x. u ≤ x.read_end) (sym (after_a_write (H p) e w)) k
      by false w = subst (λ x. u ≤ x.read_end) (sym (after_a_read (H p) e w)) (let g : u ≤ max (H p).read_end e.until = omega arith in g)

pub apart : (H : ℕ → Home) (es : List Ended) → Lawful H es → All (λ e. e.from < e.until) es → Apart es
apart H [] f a = tt
apart H (e ∷ es) f a = (by e.writes refl, apart (λ q. judged_at q (H q) e) es f.1 a.1)
  where
    judged_here : judged_at e.place (H e.place) e ≡ judged_home (H e.place) e
    judged_here = ap (λ b. cond b (judged_home (H e.place) e) (H e.place)) (eq-eqb e.place e.place refl)

    by : (w : Bool) → e.writes ≡ w → All (λ f. e.place ≡ f.place → (e.writes || f.writes) ≡ true → e.until ≤ f.from) es
    by true w = all_map es (λ f k s _. k s) (after_write e.place e.until (λ q. judged_at q (H q) e) es f.1 a.1
        (subst (λ x. e.until ≤ x.write_end) (sym judged_here) (subst (λ x. e.until ≤ x.write_end) (sym (after_a_write (H e.place) e w)) (let g : e.until ≤ e.until = omega arith in g))))
    by false w = all_map es (λ f k s g. k s (sym (ap (λ x. x || f.writes) w) ∙ g)) (after_read e.place e.until (λ q. judged_at q (H q) e) es f.1
        (subst (λ x. e.until ≤ x.read_end) (sym judged_here) (subst (λ x. e.until ≤ x.read_end) (sym (after_a_read (H e.place) e w)) (let g : e.until ≤ max (H e.place).read_end e.until = omega arith in g))))
