-- What the homes hold, beside the epochs judged so far. Assumes nothing.
use Rattle.std.proofs.Common.{◌≡◌, ℕ, ◌<◌, ◌≤◌, max, Bool, true, false, cond, ◌&&◌, eqb, ◌⊎◌, List, [], ◌∷◌, sym, refl, ap, ◌∙◌, inl, inr, ⊎_elim, arith}
use Rattle.std.proofs.lemmas.Bool.{both_ways, cases_eq, eq-eqb, ne_eqb}
use Rattle.semantics.specs.declared.row.Ended.{Ended}
use Rattle.semantics.specs.declared.row.Home.{Home}
use Rattle.semantics.specs.Judging.{judged_home}
use Rattle.consistency.proofs.Lists.{Mem}

-- The value of the place p after the judged epochs, of which the newest stands first.
abbrev pub home_value : (ℕ → ℕ) → List Ended → ℕ → ℕ
home_value start [] p = start p
home_value start (e ∷ es) p = cond (eqb e.place p && e.writes) e.last (home_value start es p)

-- Each epoch began with the value of its moment, and not before the end of an older one of its place, if either writes.
abbrev pub Judged : (ℕ → ℕ) → List Ended → Type 0
Judged start [] = Unit {0}
Judged start (e ∷ es) =
    ((w : Ended) → Mem w es → w.place ≡ e.place → (w.writes ≡ true) ⊎ (e.writes ≡ true) → w.until ≤ e.from)
    × (e.start ≡ home_value start es e.place) × Judged start es

-- The homes have the value and the ends that the judged epochs leave.
pub record Homes (start : ℕ → ℕ) (judged : List Ended) (home : ℕ → Home) : Type 0 where
  pub in_order : Judged start judged
  pub value : (p : ℕ) → (home p).value ≡ home_value start judged p
  pub write_end : (w : Ended) → Mem w judged → w.writes ≡ true → w.until ≤ (home w.place).write_end
  pub read_end : (w : Ended) → Mem w judged → w.writes ≡ false → w.until ≤ (home w.place).read_end

value_here : (start : ℕ → ℕ) (e : Ended) (es : List Ended) → home_value start (e ∷ es) e.place ≡ cond e.writes e.last (home_value start es e.place)
value_here start e es = rw (eq-eqb e.place e.place refl)

value_there : (start : ℕ → ℕ) (e : Ended) (es : List Ended) (p : ℕ) → (p ≡ e.place → ⊥) → home_value start (e ∷ es) p ≡ home_value start es p
value_there start e es p ne = rw (ne_eqb e.place p (λ i. ne (sym i)))

-- An epoch is judged.
pub judge_keeps_homes : (start : ℕ → ℕ) (es : List Ended) (home home' : ℕ → Home) (e : Ended) → e.from < e.until
    → (e.writes ≡ true → (home e.place).read_end ≤ e.from) → (home e.place).write_end ≤ e.from → e.start ≡ (home e.place).value
    → home' e.place ≡ judged_home (home e.place) e → ((q : ℕ) → (q ≡ e.place → ⊥) → home' q ≡ home q)
    → Homes start es home → Homes start (e ∷ es) home'
judge_keeps_homes start es home home' e span reads writes value here there q = go e.writes refl
  where
    same : {A : Type 0} (f : Home → A) (w : Ended) → w.place ≡ e.place → f (home' w.place) ≡ f (judged_home (home e.place) e)
    same f w i = ap f (ap home' i ∙ here)

    other : {A : Type 0} (f : Home → A) (w : Ended) → (w.place ≡ e.place → ⊥) → f (home' w.place) ≡ f (home w.place)
    other f w ne = ap f (there w.place ne)

    at_place : (w : Ended) → w.place ≡ e.place → home w.place ≡ home e.place
    at_place w i = ap home i

    go : (b : Bool) → e.writes ≡ b → Homes start (e ∷ es) home'
    go true b = record {
      in_order = (λ w m i _. by_writes w m i w.writes refl, value ∙ q.value e.place, q.in_order);
      value = λ p. ⊎_elim
          (λ i. let jv : (judged_home (home e.place) e).value ≡ e.last = rw b in
          let hv : home_value start (e ∷ es) e.place ≡ e.last = value_here start e es ∙ rw b in
          rw i (ap (λ (h : Home). h.value) here ∙ jv ∙ sym hv))
          (λ ne. ap (λ (h : Home). h.value) (there p ne) ∙ q.value p ∙ sym (value_there start e es p ne)) (cases_eq p e.place);
      write_end = λ w m c. ⊎_elim
          (λ i. let f = same (λ h. h.write_end) w (ap (λ (z : Ended). z.place) i) in
          let g : (judged_home (home e.place) e).write_end ≡ e.until = rw b in let u = ap (λ (z : Ended). z.until) i in omega arith)
          (λ n. ⊎_elim
          (λ i. let f = same (λ h. h.write_end) w i in let g : (judged_home (home e.place) e).write_end ≡ e.until = rw b in
          let k = q.write_end w n c in let j = ap (λ (h : Home). h.write_end) (at_place w i) in omega arith)
          (λ ne. let f = other (λ h. h.write_end) w ne in let k = q.write_end w n c in omega arith) (cases_eq w.place e.place)) m;
      read_end = λ w m c. ⊎_elim
          (λ i. absurd (both_ways w.writes c (ap (λ (z : Ended). z.writes) i ∙ b)))
          (λ n. ⊎_elim
          (λ i. let f = same (λ h. h.read_end) w i in let g : (judged_home (home e.place) e).read_end ≡ (home e.place).read_end = rw b in
          let k = q.read_end w n c in let j = ap (λ (h : Home). h.read_end) (at_place w i) in omega arith)
          (λ ne. let f = other (λ h. h.read_end) w ne in let k = q.read_end w n c in omega arith) (cases_eq w.place e.place)) m;
    }
      where
        by_writes : (w : Ended) → Mem w es → w.place ≡ e.place → (c : Bool) → w.writes ≡ c → w.until ≤ e.from
        by_writes w m i true c = let k = q.write_end w m c in let j = ap (λ (h : Home). h.write_end) (at_place w i) in omega arith
        by_writes w m i false c = let k = q.read_end w m c in let j = ap (λ (h : Home). h.read_end) (at_place w i) in let r = reads b in omega arith
    go false b = record {
      in_order = (
        λ w m i. ⊎_elim
            (λ c. let k = q.write_end w m c in let j = ap (λ (h : Home). h.write_end) (at_place w i) in omega arith)
            (λ c. absurd (both_ways e.writes b c)),
        value ∙ q.value e.place,
        q.in_order,
      );
      value = λ p. ⊎_elim
          (λ i. let jv : (judged_home (home e.place) e).value ≡ (home e.place).value = rw b in
          let hv : home_value start (e ∷ es) e.place ≡ home_value start es e.place = value_here start e es ∙ rw b in
          rw i (ap (λ (h : Home). h.value) here ∙ jv ∙ q.value e.place ∙ sym hv))
          (λ ne. ap (λ (h : Home). h.value) (there p ne) ∙ q.value p ∙ sym (value_there start e es p ne)) (cases_eq p e.place);
      write_end = λ w m c. ⊎_elim
          (λ i. absurd (both_ways w.writes (ap (λ (z : Ended). z.writes) i ∙ b) c))
          (λ n. ⊎_elim
          (λ i. let f = same (λ h. h.write_end) w i in let g : (judged_home (home e.place) e).write_end ≡ (home e.place).write_end = rw b in
          let k = q.write_end w n c in let j = ap (λ (h : Home). h.write_end) (at_place w i) in omega arith)
          (λ ne. let f = other (λ h. h.write_end) w ne in let k = q.write_end w n c in omega arith) (cases_eq w.place e.place)) m;
      read_end = λ w m c. ⊎_elim
          (λ i. let f = same (λ h. h.read_end) w (ap (λ (z : Ended). z.place) i) in
          let g : (judged_home (home e.place) e).read_end ≡ max (home e.place).read_end e.until = rw b in let u = ap (λ (z : Ended). z.until) i in omega arith)
          (λ n. ⊎_elim
          (λ i. let f = same (λ h. h.read_end) w i in let g : (judged_home (home e.place) e).read_end ≡ max (home e.place).read_end e.until = rw b in
          let k = q.read_end w n c in let j = ap (λ (h : Home). h.read_end) (at_place w i) in omega arith)
          (λ ne. let f = other (λ h. h.read_end) w ne in let k = q.read_end w n c in omega arith) (cases_eq w.place e.place)) m;
    }

-- The homes keep their values and ends.
pub same_keeps_homes : {start : ℕ → ℕ} {es : List Ended} {home home' : ℕ → Home} → ((p : ℕ) → (home' p).value ≡ (home p).value) → ((p : ℕ) → (home' p).write_end ≡ (home p).write_end) → ((p : ℕ) → (home' p).read_end ≡ (home p).read_end)
    → Homes start es home → Homes start es home'
same_keeps_homes v w r q = record {
  in_order = q.in_order;
  value = λ p. v p ∙ q.value p;
  write_end = λ e m c. let k = q.write_end e m c in let j = w e.place in omega arith;
  read_end = λ e m c. let k = q.read_end e m c in let j = r e.place in omega arith;
}

-- The starting value of a place that has no judged epoch is set.
value_preset : (start start' : ℕ → ℕ) (p : ℕ) → ((q : ℕ) → (q ≡ p → ⊥) → start' q ≡ start q) → (es : List Ended) (q : ℕ) → (q ≡ p → ⊥) → home_value start' es q ≡ home_value start es q
value_preset start start' p same [] q ne = same q ne
value_preset start start' p same (e ∷ es) q ne = ap (λ z. cond (eqb e.place q && e.writes) e.last z) (value_preset start start' p same es q ne)

value_unbegun : (start : ℕ → ℕ) (p : ℕ) (es : List Ended) → ((w : Ended) → Mem w es → w.place ≡ p → ⊥) → home_value start es p ≡ start p
value_unbegun start p [] h = refl
value_unbegun start p (e ∷ es) h = rw (ne_eqb e.place p (h e (inl refl))) (value_unbegun start p es (λ w m. h w (inr m)))

judged_preset : (start start' : ℕ → ℕ) (p : ℕ) → ((q : ℕ) → (q ≡ p → ⊥) → start' q ≡ start q) → (es : List Ended) → ((w : Ended) → Mem w es → w.place ≡ p → ⊥) → Judged start es → Judged start' es
judged_preset start start' p same [] h j = tt
judged_preset start start' p same (e ∷ es) h j = (j.0, j.1 ∙ sym (value_preset start start' p same es e.place (h e (inl refl))), judged_preset start start' p same es (λ w m. h w (inr m)) j.2)

pub preset_keeps_homes : (start start' : ℕ → ℕ) (es : List Ended) (home home' : ℕ → Home) (p : ℕ) → ((w : Ended) → Mem w es → w.place ≡ p → ⊥)
    → (home' p).value ≡ start' p → ((q : ℕ) → (q ≡ p → ⊥) → (home' q).value ≡ (home q).value) → ((q : ℕ) → (q ≡ p → ⊥) → start' q ≡ start q)
    → ((q : ℕ) → (home' q).write_end ≡ (home q).write_end) → ((q : ℕ) → (home' q).read_end ≡ (home q).read_end) → Homes start es home → Homes start' es home'
preset_keeps_homes start start' es home home' p un here there same w r q = record {
  in_order = judged_preset start start' p same es un q.in_order;
  value = λ u. ⊎_elim (λ i. rw i (here ∙ sym (value_unbegun start' p es un)))
      (λ ne. there u ne ∙ q.value u ∙ sym (value_preset start start' p same es u ne)) (cases_eq u p);
  write_end = λ e m c. let k = q.write_end e m c in let j = w e.place in omega arith;
  read_end = λ e m c. let k = q.read_end e m c in let j = r e.place in omega arith;
}
