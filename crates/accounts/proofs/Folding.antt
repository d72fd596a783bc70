-- What judging does to the homes: the home of each place is folded over the rows judged there. Assumes nothing.
use Rattle.std.proofs.Common.{◌≡◌, ℕ, ◌<◌, ◌≤◌, Bool, true, false, cond, eqb, ltb, ◌⊎◌, List, [], ◌∷◌, ◌++◌, length, get_or, set, Some, None, sym, refl, ap, ◌∙◌, subst, inl, inr, arith}
use Rattle.std.proofs.lemmas.Bool.{eqb-true, ltb-false, cases_eq, eq-eqb, ne_eqb}
use Rattle.std.proofs.lemmas.List.{get_or-set_same, get_or-set_other}
use Rattle.semantics.specs.declared.row.Ended.{Ended}
use Rattle.semantics.specs.declared.row.Home.{Home}
use Rattle.semantics.specs.declared.verdict.Conviction.{Conviction}
use Rattle.semantics.specs.Judging.{bar, home_laws, judged_home}
use Rattle.semantics.specs.Lists.{first_some}
use Rattle.semantics.specs.State.{unused}
use Rattle.accounts.specs.Homes.{judged_at, home_after, Lawful}
use Rattle.accounts.specs.Lists.{All, count}
use Rattle.accounts.proofs.Counting.{none_count}

-- a home, but for whether an epoch began there
abbrev pub unmarked : Home → Home
unmarked h = record { value = h.value; read_end = h.read_end; write_end = h.write_end; begun = false }

judged_unmarked : (h : Home) (e : Ended) → unmarked (judged_home h e) ≡ judged_home (unmarked h) e
judged_unmarked h e = by e.writes _ _
  where
    by : (w : Bool) (x y : Home) → unmarked (cond w x y) ≡ cond w (unmarked x) (unmarked y)
    by true x y = refl
    by false x y = refl

judged_begun : (h : Home) (e : Ended) → (judged_home h e).begun ≡ h.begun
judged_begun h e = by e.writes _ _ refl refl
  where
    by : (w : Bool) (x y : Home) → x.begun ≡ h.begun → y.begun ≡ h.begun → (cond w x y).begun ≡ h.begun
    by true x y a b = a
    by false x y a b = b

at_unmarked : (p : ℕ) (h : Home) (e : Ended) → unmarked (judged_at p h e) ≡ judged_at p (unmarked h) e
at_unmarked p h e = by (eqb e.place p)
  where
    by : (b : Bool) → unmarked (cond b (judged_home h e) h) ≡ cond b (judged_home (unmarked h) e) (unmarked h)
    by true = judged_unmarked h e
    by false = refl

at_begun : (p : ℕ) (h : Home) (e : Ended) → (judged_at p h e).begun ≡ h.begun
at_begun p h e = by (eqb e.place p)
  where
    by : (b : Bool) → (cond b (judged_home h e) h).begun ≡ h.begun
    by true = judged_begun h e
    by false = refl

pub after_unmarked : (p : ℕ) (h : Home) (es : List Ended) → unmarked (home_after p h es) ≡ home_after p (unmarked h) es
after_unmarked p h [] = refl
after_unmarked p h (e ∷ es) = after_unmarked p (judged_at p h e) es ∙ ap (λ x. home_after p x es) (at_unmarked p h e)

pub after_begun : (p : ℕ) (h : Home) (es : List Ended) → (home_after p h es).begun ≡ h.begun
after_begun p h [] = refl
after_begun p h (e ∷ es) = after_begun p (judged_at p h e) es ∙ at_begun p h e

pub after_append : (p : ℕ) (h : Home) (xs ys : List Ended) → home_after p h (xs ++ ys) ≡ home_after p (home_after p h xs) ys
after_append p h [] ys = refl
after_append p h (x ∷ xs) ys = after_append p (judged_at p h x) xs ys

-- no row of the place
pub after_none : (p : ℕ) (h : Home) (xs : List Ended) → count (λ x. eqb x.place p) xs ≡ 0 → home_after p h xs ≡ h
after_none p h [] n = refl
after_none p h (x ∷ xs) n =
    let z = (none_count (λ x. eqb x.place p) (x ∷ xs) n).0 in
    ap (λ b. home_after p (cond b (judged_home h x) h) xs) z ∙ after_none p h xs (omega arith)

-- homes that agree at the places of the rows
pub lawful_like : (H K : ℕ → Home) (xs : List Ended) → All (λ x. unmarked (H x.place) ≡ unmarked (K x.place)) xs → Lawful H xs → Lawful K xs
lawful_like H K [] a f = tt
lawful_like H K (x ∷ xs) a f =
    (subst (λ h. home_laws h x ≡ None) a.0 f.0, lawful_like (λ p. judged_at p (H p) x) (λ p. judged_at p (K p) x) xs (each xs a.1) f.1)
  where
    each : (ys : List Ended) → All (λ y. unmarked (H y.place) ≡ unmarked (K y.place)) ys → All (λ y. unmarked (judged_at y.place (H y.place) x) ≡ unmarked (judged_at y.place (K y.place) x)) ys
    each [] h = tt
    each (y ∷ ys) h = (at_unmarked y.place (H y.place) x ∙ ap (λ k. judged_at y.place k x) h.0 ∙ sym (at_unmarked y.place (K y.place) x), each ys h.1)

pub lawful_append : (H : ℕ → Home) (xs ys : List Ended) → Lawful H xs → Lawful (λ p. home_after p (H p) xs) ys → Lawful H (xs ++ ys)
lawful_append H [] ys f g = g
lawful_append H (x ∷ xs) ys f g = (f.0, lawful_append (λ p. judged_at p (H p) x) xs ys f.1 g)

-- the homes after one judging
pub home_next : (hs : List Home) (e : Ended) → e.place < length hs → (p : ℕ) → get_or (set hs e.place (judged_home (get_or hs e.place unused) e)) p unused ≡ judged_at p (get_or hs p unused) e
home_next hs e l p = by (cases_eq e.place p)
  where
    by : (e.place ≡ p) ⊎ (e.place ≡ p → ⊥) → get_or (set hs e.place (judged_home (get_or hs e.place unused) e)) p unused ≡ judged_at p (get_or hs p unused) e
    by (inl q) =
        subst (λ p. get_or (set hs e.place (judged_home (get_or hs e.place unused) e)) p unused ≡ judged_at p (get_or hs p unused) e) q
        (get_or-set_same hs e.place _ unused l
        ∙ sym (ap (λ b. cond b (judged_home (get_or hs e.place unused) e) (get_or hs e.place unused)) (eq-eqb e.place e.place refl)))
    by (inr n) = get_or-set_other hs e.place p _ unused (λ h. n (sym h))
        ∙ sym (ap (λ b. cond b (judged_home (get_or hs p unused) e) (get_or hs p unused)) (ne_eqb e.place p n))

-- what it means to break neither law
pub law_fits : (h : Home) (e : Ended) → home_laws h e ≡ None → (bar h e ≤ e.from) × (e.start ≡ h.value)
law_fits h e p = let q = by (ltb e.from (bar h e)) (eqb e.start h.value) _ _ p in (ltb-false e.from (bar h e) q.0, eqb-true e.start h.value q.1)
  where
    by : (a b : Bool) (x y : Conviction) → first_some (cond a (Some x) None ∷ cond b None (Some y) ∷ []) ≡ None → (a ≡ false) × (b ≡ true)
    by true b x y q = let z : ◌≡◌ {A = ℕ} 0 1 = cc in absurd (omega arith)
    by false true x y q = (refl, refl)
    by false false x y q = let z : ◌≡◌ {A = ℕ} 0 1 = cc in absurd (omega arith)

-- a conviction of the home names the notice
pub law_names : (h : Home) (e : Ended) (c : Conviction) → home_laws h e ≡ Some c → c.number ≡ e.number
law_names h e c p = by (ltb e.from (bar h e)) (eqb e.start h.value) _ _ refl refl p
  where
    by : (a b : Bool) (x y : Conviction) → x.number ≡ e.number → y.number ≡ e.number → first_some (cond a (Some x) None ∷ cond b None (Some y) ∷ []) ≡ Some c → c.number ≡ e.number
    by true b x y hx hy q = cc
    by false true x y hx hy q = let z : ◌≡◌ {A = ℕ} 0 1 = cc in absurd (omega arith)
    by false false x y hx hy q = cc
