-- The value at home is that of the latest store in the judged epochs. Assumes nothing.
use Rattle.std.proofs.Common.{◌≡◌, ℕ, ◌<◌, ◌≤◌, Bool, true, false, cond, ◌&&◌, eqb, ◌⊎◌, List, [], ◌∷◌, length, sym, refl, ap, ◌∙◌, subst, inl, inr, ⊎_elim, arith}
use Rattle.std.proofs.lemmas.Bool.{both_ways, cases_order, and_parts, and_from, eq-eqb, eqb-true}
use Rattle.semantics.specs.declared.row.Ended.{Ended}
use Rattle.semantics.specs.Classes.{writes, puts}
use Rattle.consistency.specs.Performed.{Performed, none, at, Before}
use Rattle.consistency.proofs.Lists.{Mem, nth_here}
use Rattle.consistency.proofs.Outstanding.{Ops, Times}
use Rattle.consistency.proofs.Epochs.{Latest, LatestOne, StoreIn}
use Rattle.consistency.proofs.Homes.{home_value, Judged}
use Rattle.consistency.proofs.Orders.{before_by_index}

-- A store to the place p that lies in an epoch of the list.
pub record Lies (es : List Ended) (p : ℕ) (z : Performed) : Type 0 where
  pub stores : writes z.op.class ≡ true
  pub place : z.op.place ≡ p
  pub row : Ended
  pub here : Mem row es
  pub thread : row.thread ≡ z.thread
  pub at_place : row.place ≡ p
  pub writes : row.writes ≡ true
  pub from : row.from ≤ z.time
  pub until : z.time < row.until

-- Of the operations of which Q holds, the latest in the order put the value v.
pub record Newest (ops : Ops) (Q : Performed → Type 0) (v : ℕ) : Type 0 where
  pub index : ℕ
  pub within : index < length ops
  pub holds : Q (at ops index)
  pub value : puts (at ops index).op ≡ v
  pub last : (m : ℕ) → m < length ops → Q (at ops m) → (m ≡ index) ⊎ Before ops m index

-- The same, or there is none, and v is d.
abbrev pub NewestOr : Ops → (Performed → Type 0) → ℕ → ℕ → Type 0
NewestOr ops Q d v = Newest ops Q v ⊎ (((m : ℕ) → m < length ops → Q (at ops m) → ⊥) × (v ≡ d))

newest_same : (ops : Ops) (Q S : Performed → Type 0) (d v : ℕ) → ((z : Performed) → Q z → S z) → ((m : ℕ) → m < length ops → S (at ops m) → Q (at ops m)) → NewestOr ops Q d v → NewestOr ops S d v
newest_same ops Q S d v f g (inl n) = inl (record { index = n.index; within = n.within; holds = f _ n.holds; value = n.value; last = λ m w s. n.last m w (g m w s) })
newest_same ops Q S d v f g (inr n) = inr (λ m w s. n.0 m w (g m w s), n.1)

-- Each row has a span, and its last value is that of the last store in it.
abbrev pub Rows : Ops → List Ended → Type 0
Rows ops es = (X : Ended) → Mem X es → (X.from < X.until) × Latest ops (λ k y. StoreIn X.thread X.place X.from y × (y.time < X.until)) X.start X.last

module _ (ops : Ops) (clock : ℕ → ℕ) (times : (t : ℕ) → Times ops t (clock t)) (start : ℕ → ℕ) where
  pub home_is_newest : (es : List Ended) → Judged start es → Rows ops es → (p : ℕ) → NewestOr ops (Lies es p) (start p) (home_value start es p)
  home_is_newest [] j r p = inr (λ m w l. l.here, refl)
  home_is_newest (e ∷ es) j r p = by (eqb e.place p && e.writes) refl (home_is_newest es j.2 (λ X m. r X (inr m)) p)
    where
      on : (z : Performed) → Lies es p z → Lies (e ∷ es) p z
      on z l = record { stores = l.stores; place = l.place; row = l.row; here = inr l.here; thread = l.thread; at_place = l.at_place; writes = l.writes; from = l.from; until = l.until }

      -- What lies in the list lies in the rest, or in e.
      back : (z : Performed) → Lies (e ∷ es) p z → Lies es p z ⊎ ((l : Lies (e ∷ es) p z) × (l.row ≡ e))
      back z l = ⊎_elim (λ i. inr (l, i))
          (λ m. inl (record { stores = l.stores; place = l.place; row = l.row; here = m; thread = l.thread; at_place = l.at_place; writes = l.writes; from = l.from; until = l.until })) l.here

      found : e.place ≡ p → e.writes ≡ true → LatestOne ops (λ k y. StoreIn e.thread e.place e.from y × (y.time < e.until)) e.last → Newest ops (Lies (e ∷ es) p) e.last
      found pl w l =
          let hh : StoreIn e.thread e.place e.from (at ops l.index) × ((at ops l.index).time < e.until) = subst (λ z. StoreIn e.thread e.place e.from z × (z.time < e.until)) (sym l.here.is) l.holds in
          let hi = hh.0 in
          record {
            index = l.index;
            within = l.here.within;
            holds = record { stores = hi.stores; place = hi.place ∙ pl; row = e; here = inl refl; thread = sym hi.thread; at_place = pl; writes = w; from = hi.from; until = hh.1 };
            value = ap (λ (z : Performed). puts z.op) l.here.is ∙ l.value;
            last = λ m wm k. ⊎_elim
                (λ n. let u = j.0 n.row n.here (n.at_place ∙ sym pl) (inl n.writes) in let a = n.until in let c = hi.from in inr (inl (omega arith)))
                (λ n. let i = n.1 in let o = n.0 in
                let it : e.thread ≡ (at ops m).thread = ap (λ (z : Ended). z.thread) (sym i) ∙ o.thread in
                let f : e.from ≤ (at ops m).time = rw i at o.from in
                let u : (at ops m).time < e.until = rw i at o.until in
                let q = l.last m (at ops m) (nth_here none ops m wm) (record { thread = sym it; stores = o.stores; place = o.place ∙ sym pl; from = f }, u) in
                ⊎_elim (λ g. inl g) (⊎_elim (λ g. inr (before_by_index ops clock times m l.index wm l.here.within g (sym it ∙ sym hi.thread))) (λ g. absurd (omega arith))) (cases_order m l.index))
                (back (at ops m) k);
          }

      by : (b : Bool) → (eqb e.place p && e.writes) ≡ b → NewestOr ops (Lies es p) (start p) (home_value start es p) → NewestOr ops (Lies (e ∷ es) p) (start p) (cond b e.last (home_value start es p))
      by false b ih = newest_same ops (Lies es p) (Lies (e ∷ es) p) (start p) (home_value start es p) on
          (λ m w l. ⊎_elim (λ k. k) (λ k. let i = k.1 in let o = k.0 in
          absurd (both_ways _ b (and_from _ _ (eq-eqb e.place p (ap (λ (w : Ended). w.place) (sym i) ∙ o.at_place)) (ap (λ (w : Ended). w.writes) (sym i) ∙ o.writes)))) (back (at ops m) l)) ih
      by true b ih =
          let two = and_parts (eqb e.place p) e.writes b in
          let pl = eqb-true e.place p two.0 in
          let row = r e (inl refl) in
          ⊎_elim (λ l. inl (found pl two.1 l))
          (λ n. let fv : e.last ≡ home_value start es p = n.1 ∙ j.1 ∙ ap (λ u. home_value start es u) pl in
          subst (λ v. NewestOr ops (Lies (e ∷ es) p) (start p) v) (sym fv) (newest_same ops (Lies es p) (Lies (e ∷ es) p) (start p) (home_value start es p) on
          (λ m w l. ⊎_elim (λ k. k) (λ k. let i = k.1 in let o = k.0 in
          absurd (n.0 m (at ops m) (nth_here none ops m w)
          (record { thread = sym o.thread ∙ ap (λ (z : Ended). z.thread) i; stores = o.stores; place = o.place ∙ sym pl; from = rw i at o.from }, rw i at o.until))) (back (at ops m) l)) ih)) row.1

-- Where the epoch e stands among the judged: `older` were judged before it.
pub record Split (start : ℕ → ℕ) (es : List Ended) (e : Ended) : Type 0 where
  pub older : List Ended
  pub in_order : Judged start older
  pub value : e.start ≡ home_value start older e.place
  pub inside : (w : Ended) → Mem w older → Mem w es
  pub before : (w : Ended) → Mem w older → w.place ≡ e.place → w.writes ≡ true → w.until ≤ e.from
  pub rest : (w : Ended) → Mem w es → Mem w older ⊎ ((w ≡ e) ⊎ (w.place ≡ e.place → w.writes ≡ true → e.until ≤ w.from))

pub split : (start : ℕ → ℕ) (es : List Ended) (e : Ended) → Judged start es → Mem e es → Split start es e
split start [] e j m = absurd m
split start (f ∷ es) e j (inl i) = record {
  older = es;
  in_order = j.2;
  value = ap (λ (z : Ended). z.start) i ∙ j.1 ∙ ap (λ (z : Ended). home_value start es z.place) (sym i);
  inside = λ w m. inr m;
  before = λ w m p c. let u = j.0 w m (p ∙ ap (λ (z : Ended). z.place) i) (inl c) in let k = ap (λ (z : Ended). z.from) i in omega arith;
  rest = λ w m. ⊎_elim (λ k. inr (inl (k ∙ sym i))) (λ k. inl k) m;
}
split start (f ∷ es) e j (inr m) = let s = split start es e j.2 m in record {
  older = s.older;
  in_order = s.in_order;
  value = s.value;
  inside = λ w n. inr (s.inside w n);
  before = s.before;
  rest = λ w n. ⊎_elim
      (λ k. inr (inr (λ p c. let u = j.0 e m (sym p ∙ ap (λ (z : Ended). z.place) k) (inr (ap (λ (z : Ended). z.writes) (sym k) ∙ c)) in let g = ap (λ (z : Ended). z.from) k in omega arith)))
      (λ k. s.rest w k) n;
}
