-- Ended epochs that break neither of the home's laws, in the order in which their places were given back, and in any order by begin. Assumes nothing.
use Rattle.std.proofs.Common.{◌≡◌, ℕ, ◌<◌, ◌≤◌, max, Bool, true, false, cond, ◌⊎◌, List, [], ◌∷◌, Some, None, Option, sym, refl, ap, ◌∙◌, subst, inl, inr, arith}
use Rattle.std.proofs.lemmas.Bool.{eq-eqb, true≢false, cases_eq, le-ltb}
use Rattle.semantics.specs.declared.row.Ended.{Ended}
use Rattle.semantics.specs.declared.row.Home.{Home}
use Rattle.semantics.specs.declared.verdict.Conviction.{Conviction}
use Rattle.semantics.specs.declared.verdict.Law.TheVariants.{Overlap, WrongBeginValue}
use Rattle.semantics.specs.Judging.{bar, law27, law28, home_laws, judged_home}
use Rattle.semantics.specs.Limits.{last_place}
use Rattle.semantics.specs.Lists.{first_some}
use Rattle.honest.specs.Machine.{Every}
use Rattle.honest.proofs.SameElements.{Pick, here, there}

-- What the home's laws ask of an epoch.
pub record Sound (h : Home) (e : Ended) : Type 0 where
  pub inside : e.place ≤ last_place
  pub span : e.from < e.until
  pub start : e.start ≡ h.value
  pub write : h.write_end ≤ e.from
  pub read : e.writes ≡ true → h.read_end ≤ e.from

bar_below : (h : Home) (e : Ended) → Sound h e → bar h e ≤ e.from
bar_below h e s = go e.writes refl
  where
    go : (b : Bool) → e.writes ≡ b → cond b (max h.read_end h.write_end) h.write_end ≤ e.from
    go true w = let a = s.write in let b = s.read w in omega arith
    go false w = s.write

pub sound_laws : (h : Home) (e : Ended) → Sound h e → home_laws h e ≡ None
sound_laws h e s = both (law27 h e) (law28 h e)
    (ap (λ b. cond b (Some (record { law = Overlap; thread = e.thread; number = e.number; other = bar h e })) None) (le-ltb e.from (bar h e) (bar_below h e s)))
    (ap (λ b. cond b None (Some (record { law = WrongBeginValue; thread = e.thread; number = e.number; other = h.value }))) (eq-eqb e.start h.value s.start))
  where
    both : (x y : Option Conviction) → x ≡ None → y ≡ None → first_some (x ∷ y ∷ []) ≡ None
    both x y a b = cc

-- The epochs of the place p among these, judged in this order, break no law of the home.
abbrev pub Judgeable : ℕ → Home → List Ended → Type 0
Judgeable p h [] = Unit {0}
Judgeable p h (e ∷ es) = (e.place ≡ p → Sound h e × Judgeable p (judged_home h e) es) × ((e.place ≡ p → ⊥) → Judgeable p h es)

pub home_write : (h : Home) (e : Ended) → e.writes ≡ true → judged_home h e ≡ record { value = e.last; read_end = h.read_end; write_end = e.until; begun = h.begun }
home_write h e w = ap (λ b. cond b (record { value = e.last; read_end = h.read_end; write_end = e.until; begun = h.begun }) (record { value = h.value; read_end = max h.read_end e.until; write_end = h.write_end; begun = h.begun })) w

pub home_read : (h : Home) (e : Ended) → e.writes ≡ false → judged_home h e ≡ record { value = h.value; read_end = max h.read_end e.until; write_end = h.write_end; begun = h.begun }
home_read h e w = ap (λ b. cond b (record { value = e.last; read_end = h.read_end; write_end = e.until; begun = h.begun }) (record { value = h.value; read_end = max h.read_end e.until; write_end = h.write_end; begun = h.begun })) w

reads_commute : (h : Home) (e f : Ended) → e.writes ≡ false → f.writes ≡ false → judged_home (judged_home h f) e ≡ judged_home (judged_home h e) f
reads_commute h e f a b =
    home_read (judged_home h f) e a ∙ ap (λ g. record { value = g.value; read_end = max g.read_end e.until; write_end = g.write_end; begun = g.begun }) (home_read h f b)
    ∙ ap (λ r. record { value = h.value; read_end = r; write_end = h.write_end; begun = h.begun }) (omega arith)
    ∙ sym (home_read (judged_home h e) f b ∙ ap (λ g. record { value = g.value; read_end = max g.read_end f.until; write_end = g.write_end; begun = g.begun }) (home_read h e a))

-- An epoch that begins no later than any other may be judged first.
pub record Judged (p : ℕ) (h : Home) (e : Ended) (us : List Ended) : Type 0 where
  pub sound : Sound h e
  pub rest : Judgeable p (judged_home h e) us

judged_before : (p : ℕ) (h : Home) (e f : Ended) (us : List Ended) → e.from ≤ f.from → f.place ≡ p → Sound h f → Judged p (judged_home h f) e us → Judged p h e (f ∷ us)
judged_before p h e f us le fp s j = go f.writes refl e.writes refl
  where
    go : (b : Bool) → f.writes ≡ b → (c : Bool) → e.writes ≡ c → Judged p h e (f ∷ us)
    go true w c x = let a = home_write h f w in let b = j.sound.write in let k = s.span in let z = ap (λ g. g.write_end) a in absurd (omega arith)
    go false w true x = let a = ap (λ g. g.read_end) (home_read h f w) in let b = j.sound.read x in let k = s.span in absurd (omega arith)
    go false w false x =
        let a = home_read h f w in let b = home_read h e x in
        let av = ap (λ g. g.value) a in let aw = ap (λ g. g.write_end) a in
        let bv = ap (λ g. g.value) b in let bw = ap (λ g. g.write_end) b in
        let js = j.sound.start in let jw = j.sound.write in let ss = s.start in let sw = s.write in
        record {
          sound = record { inside = j.sound.inside; span = j.sound.span; start = js ∙ av; write = omega arith; read = λ y. absurd (true≢false (sym y ∙ x)) };
          rest = (
            (λ _. (
              record { inside = s.inside; span = s.span; start = ss ∙ sym bv; write = omega arith; read = λ y. absurd (true≢false (sym y ∙ w)) },
              subst (λ g. Judgeable p g us) (reads_commute h e f x w) j.rest,
            )),
            λ n. absurd (n fp),
          );
        }

pub judge_one : (p : ℕ) (e : Ended) (h : Home) {us vs : List Ended} → Pick e us vs → e.place ≡ p → Every (λ f. e.from ≤ f.from) us → Judgeable p h us → Judged p h e vs
judge_one p e h here ep ev g = let r = g.0 ep in record { sound = r.0; rest = r.1 }
judge_one p e h (there {y = f} {ys = ys} q) ep ev g =
    go (cases_eq f.place p) (λ fp. judge_one p e (judged_home h f) q ep ev.1 (g.0 fp).1) (λ nf. judge_one p e h q ep ev.1 (g.1 nf))
  where
    go : (f.place ≡ p) ⊎ (f.place ≡ p → ⊥) → (f.place ≡ p → Judged p (judged_home h f) e ys) → ((f.place ≡ p → ⊥) → Judged p h e ys) → Judged p h e (f ∷ ys)
    go (inl fp) y n = judged_before p h e f ys ev.0 fp (g.0 fp).0 (y fp)
    go (inr nf) y n = let j = n nf in record { sound = j.sound; rest = ((λ fp. absurd (nf fp)), λ _. j.rest) }

-- Judging it changes nothing for other places.
pub judge_rest : (p : ℕ) (e : Ended) (h : Home) {us vs : List Ended} → Pick e us vs → (e.place ≡ p → ⊥) → Judgeable p h us → Judgeable p h vs
judge_rest p e h here ne g = g.1 ne
judge_rest p e h (there {y = f} q) ne g = ((λ fp. ((g.0 fp).0, judge_rest p e (judged_home h f) q ne (g.0 fp).1)), λ nf. judge_rest p e h q ne (g.1 nf))

-- Whether a place has had a begin is not asked.
pub judgeable_home : (p : ℕ) (h k : Home) (us : List Ended) → h.value ≡ k.value → h.read_end ≡ k.read_end → h.write_end ≡ k.write_end → Judgeable p h us → Judgeable p k us
judgeable_home p h k [] a b c g = tt
judgeable_home p h k (e ∷ us) a b c g = (
  (λ ep. (
    record { inside = (g.0 ep).0.inside; span = (g.0 ep).0.span; start = (g.0 ep).0.start ∙ a; write = (let x = (g.0 ep).0.write in omega arith); read = (λ w. let x = (g.0 ep).0.read w in omega arith) },
    judgeable_home p (judged_home h e) (judged_home k e) us (vs e.writes) (rs e.writes) (ws e.writes) (g.0 ep).1,
  )),
  λ n. judgeable_home p h k us a b c (g.1 n),
)
  where
    at : Bool → Home → Home
    at x g = cond x (record { value = e.last; read_end = g.read_end; write_end = e.until; begun = g.begun }) (record { value = g.value; read_end = max g.read_end e.until; write_end = g.write_end; begun = g.begun })

    vs : (x : Bool) → (at x h).value ≡ (at x k).value
    vs true = refl
    vs false = a

    rs : (x : Bool) → (at x h).read_end ≡ (at x k).read_end
    rs true = b
    rs false = ap (λ z. max z e.until) b

    ws : (x : Bool) → (at x h).write_end ≡ (at x k).write_end
    ws true = refl
    ws false = c
