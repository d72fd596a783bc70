-- With every epoch judged and nothing outstanding, what performed is consistent. Assumes nothing.
use Rattle.std.proofs.Common.{◌≡◌, ℕ, ◌<◌, ◌≤◌, true, ◌⊎◌, List, [], length, get_or, None, sym, refl, ap, ◌∙◌, subst, inl, inr, ⊎_elim, arith}
use Rattle.std.proofs.lemmas.Bool.{both_ways, cases_order, or_right}
use Rattle.semantics.specs.declared.row.Operation.{Operation}
use Rattle.semantics.specs.declared.row.Ended.{Ended}
use Rattle.semantics.specs.Classes.{reads, writes, got, puts}
use Rattle.semantics.specs.Laws.{Rule}
use Rattle.consistency.specs.Performed.{Performed, nothing, none, at, Before, ProgramBefore}
use Rattle.consistency.specs.Consistent.{orders_at, Visible, ReadsStore, ReadsStart, ConsistentOps, PerformedOnce, KeepsPlaces, StoredBefore, HasLatest, HasStart, CopiesAreLatest}
use Rattle.consistency.proofs.Lists.{Mem, nth_here}
use Rattle.consistency.proofs.Outstanding.{Ops, After, Outstanding, Sources, Times}
use Rattle.consistency.proofs.Epochs.{Latest, StoreIn, Epochs}
use Rattle.consistency.proofs.Homes.{home_value, Judged}
use Rattle.consistency.proofs.HomeValues.{Lies, Rows, home_is_newest, Split, split}
use Rattle.consistency.proofs.Orders.{earlier_chains, earlier_never_itself, before_by_index}

module _ (R : Rule) (ops : Ops) (start : ℕ → ℕ) (es : List Ended) (clock commits : ℕ → ℕ) (prog : ℕ → List Operation)
    (outstanding : (t : ℕ) → Outstanding R ops t [] (commits t) (prog t)) (sources : (t : ℕ) → Sources ops t []) (times : (t : ℕ) → Times ops t (clock t))
    (epochs : (t : ℕ) → Epochs ops t (clock t) (λ _. None) (λ X. Mem X es)) (judged : Judged start es) where
  in_order : (i j : ℕ) → i < length ops → j < length ops → i < j → (at ops i).thread ≡ (at ops j).thread → Before ops i j
  in_order = before_by_index ops clock times

  after : (i j : ℕ) (wi : i < length ops) (wj : j < length ops) → i < j → (at ops j).thread ≡ (at ops i).thread → After R (prog (at ops i).thread) (at ops i) (at ops j).op
  after i j wi wj l th = (outstanding (at ops i).thread).done_after i (at ops i) (nth_here none ops i wi) refl j (at ops j) (nth_here none ops j wj) l th

  -- Of two operations of a thread the earlier in program order comes first, if the later did not perform before it.
  kept_unless : (i j : ℕ) → i < length ops → j < length ops → ProgramBefore ops i j → (j < i → ⊥) → Before ops i j
  kept_unless i j wi wj b no_later = ⊎_elim
      (λ e. let n = ap (λ k. (at ops k).op.number) e in let l = b.1 in absurd (omega arith))
      (⊎_elim (λ l. in_order i j wi wj l b.0) (λ l. absurd (no_later l))) (cases_order i j)

  order_kept : (i j : ℕ) → i < length ops → j < length ops → ProgramBefore ops i j → orders_at R (prog (at ops i).thread) (at ops i).op.number (at ops j).op.number ≡ true → Before ops i j
  order_kept i j wi wj b r = kept_unless i j wi wj b
      (λ l. both_ways _ ((after j i wj wi l b.0).free b.1) (subst (λ t. orders_at R (prog t) (at ops i).op.number (at ops j).op.number ≡ true) b.0 r))

  pub places_kept : KeepsPlaces ops
  places_kept i j wi wj b p c d = kept_unless i j wi wj b (λ l. (after j i wj wi l b.0).places b.1 c d p)

  -- Two operations of a thread that performed have different numbers.
  same_number : (i j : ℕ) → i < length ops → j < length ops → (at ops i).thread ≡ (at ops j).thread → (at ops i).op.number ≡ (at ops j).op.number → i ≡ j
  same_number i j wi wj th n = ⊎_elim (λ e. e)
      (⊎_elim (λ l. absurd ((after i j wi wj l (sym th)).other (sym n))) (λ l. absurd ((after j i wj wi l th).other n))) (cases_order i j)

  pub performed_once : (t m : ℕ) → m < length (prog t) → PerformedOnce (prog t) ops t m
  performed_once t m l = ⊎_elim (λ k. absurd k.here)
      (λ d.
      let is = d.here.is in
      let th : (at ops d.index).thread ≡ t = ap (λ (z : Performed). z.thread) is ∙ d.thread in
      let nu : (at ops d.index).op.number ≡ m = ap (λ (z : Performed). z.op.number) is ∙ d.number in
      record {
        index = d.index;
        performed = d.here.within;
        thread = th;
        number = nu;
        committed = sym ((outstanding t).done_known d.index (at ops d.index) (nth_here none ops d.index d.here.within) th) ∙ ap (λ k. get_or (prog t) k nothing) nu;
        only = λ j w tj nj. same_number j d.index w d.here.within (tj ∙ sym th) (nj ∙ sym nu);
      }) ((outstanding t).accounted m (let c = (outstanding t).counted in omega arith))

  rows : Rows ops es
  rows X m = (((epochs X.thread).spanned X m refl).0, (epochs X.thread).ended_with X m refl)

  -- The epoch of a store.
  stored : (m : ℕ) → m < length ops → writes (at ops m).op.class ≡ true → Lies es (at ops m).op.place (at ops m)
  stored m w c = let s = (epochs (at ops m).thread).stored m (at ops m) (nth_here none ops m w) refl c in ⊎_elim
      (λ o. let f = o.found in let z : ◌≡◌ {A = ℕ} 0 1 = cc in absurd (omega arith))
      (λ o. record { stores = c; place = refl; row = o.row; here = o.here; thread = o.thread; at_place = o.place; writes = o.writes; from = let a = o.from in let b = s.after in omega arith; until = o.until }) s.holds

  -- A load from an outstanding store.
  forwarded_reads : (i : ℕ) → i < length ops → reads (at ops i).op.class ≡ true → (at ops i).answer ≡ 1 → ReadsStore ops i
  forwarded_reads i w c a = let s = sources (at ops i).thread i (at ops i) (nth_here none ops i w) refl c a in ⊎_elim (λ m. absurd m)
      (λ d.
      let k = d.index in
      let wk : k < length ops = d.here.within in
      let is : (at ops k).op ≡ s.source = ap (λ (z : Performed). z.op) d.here.is ∙ d.is in
      let th : (at ops k).thread ≡ (at ops i).thread = ap (λ (z : Performed). z.thread) d.here.is ∙ d.thread in
      let nu : (at ops k).op.number ≡ s.source.number = ap (λ (z : Operation). z.number) is in
      let cl : writes (at ops k).op.class ≡ true = ap (λ (z : Operation). writes z.class) is ∙ s.stores in
      let pl : (at ops k).op.place ≡ (at ops i).op.place = ap (λ (z : Operation). z.place) is ∙ s.same in
      let next : Before ops i k = in_order i k w wk d.later (sym th) in
      record {
        store = k;
        visible = record { performed = wk; stores = cl; same = pl; seen = inr (th, let l = s.sooner in omega arith) };
        latest = λ m v. ⊎_elim (λ b. inr (earlier_chains m i k (at ops m) (at ops i) (at ops k) b next))
            (λ b. ⊎_elim
            (λ e. let n = ap (λ u. (at ops u).op.number) e in let l = b.1 in absurd (omega arith))
            (⊎_elim (λ l. inr (earlier_chains m i k (at ops m) (at ops i) (at ops k) (in_order m i v.performed w l b.0) next))
            (λ l.
            let le = s.last_done m (at ops m) (nth_here none ops m v.performed) l b.0 v.stores v.same b.1 in
            let thk : (at ops m).thread ≡ (at ops k).thread = b.0 ∙ sym th in
            ⊎_elim (λ e. inl e) (⊎_elim (λ g. inr (in_order m k v.performed wk g thk))
            (λ g. let f = after k m wk v.performed g thk in absurd (⊎_elim
            (λ e. f.other (e ∙ sym nu))
            (⊎_elim (λ h. f.places (omega arith) (or_right (reads (at ops m).op.class) (writes (at ops m).op.class) v.stores) cl (v.same ∙ sym pl)) (λ h. omega arith)) (cases_order (at ops m).op.number s.source.number)))) (cases_order m k)))
            (cases_order m i)) v.seen;
        value = sym (ap puts is ∙ s.value);
      }) s.stands

  -- A load from the copy.
  module _ (i : ℕ) (w : i < length ops) (c : reads (at ops i).op.class ≡ true) (a : (at ops i).answer ≡ 2) where
    module _ (e : Ended) (a₀ : ℕ) (th : e.thread ≡ (at ops i).thread) (pl : e.place ≡ (at ops i).op.place) (from : e.from ≡ a₀) (until : (at ops i).time < e.until) (s : Split start es e) where
      -- A store before the load lies in an older epoch, or in the load's own and performed before the load.
      stands : (m : ℕ) → StoredBefore ops i m → Lies s.older (at ops i).op.place (at ops m) ⊎ ((m < i) × StoreIn (at ops i).thread (at ops i).op.place a₀ (at ops m))
      stands m v =
          let l = stored m v.performed v.stores in
          let wp : l.row.place ≡ (at ops i).op.place = l.at_place ∙ v.same in
          ⊎_elim
          (λ o. inl (record { stores = v.stores; place = v.same; row = l.row; here = o; thread = l.thread; at_place = wp; writes = l.writes; from = l.from; until = l.until }))
          (⊎_elim
          (λ k. let mt : (at ops m).thread ≡ (at ops i).thread = sym l.thread ∙ (ap (λ (z : Ended). z.thread) k ∙ th) in
          let f : l.row.from ≡ e.from = ap (λ (z : Ended). z.from) k in
          let g = l.from in
          inr (first mt, record { thread = mt; stores = v.stores; place = v.same; from = omega arith }))
          (λ k. let u = k (wp ∙ sym pl) l.writes in let g = l.from in absurd (not_late (omega arith))))
          (s.rest l.row l.here)
        where
          not_late : (at ops i).time < (at ops m).time → ⊥
          not_late g = ⊎_elim (λ b. omega arith) (λ b. let q = b.0 in omega arith) v.before

          first : (at ops m).thread ≡ (at ops i).thread → m < i
          first mt = ⊎_elim
              (λ q. absurd (earlier_never_itself i (at ops i) (subst (λ k. Before ops k i) q v.before)))
              (⊎_elim (λ q. q)
              (λ q. let r = (times (at ops i).thread).rise i (at ops i) (nth_here none ops i w) refl m (at ops m) (nth_here none ops m v.performed) q mt in
              ⊎_elim (λ b. absurd (omega arith)) (λ b. ⊎_elim (λ u. absurd (omega arith)) (λ u. u.1) b.1) v.before)) (cases_order m i)

      by_copy : a₀ ≤ (at ops i).time → Latest ops (λ m y. StoreIn (at ops i).thread (at ops i).op.place a₀ y × (m < i)) e.start (got (at ops i).op) → HasLatest ops i ⊎ HasStart ops start i
      by_copy l (inl n) =
          let k = n.index in
          let wk : k < length ops = n.here.within in
          let is = n.here.is in
          let hh : StoreIn (at ops i).thread (at ops i).op.place a₀ (at ops k) = subst (λ z. StoreIn (at ops i).thread (at ops i).op.place a₀ z) (sym is) n.holds.0 in
          inl (record {
            store = k;
            stored = record { performed = wk; stores = hh.stores; same = hh.place; before = in_order k i wk w n.holds.1 hh.thread };
            latest = λ m v. ⊎_elim
                (λ o. let b = s.before o.row o.here (o.at_place ∙ sym pl) o.writes in let u = o.until in let f = hh.from in inr (inl (omega arith)))
                (λ o. let q = n.last m (at ops m) (nth_here none ops m v.performed) (o.1, o.0) in
                ⊎_elim (λ g. inl g) (⊎_elim (λ g. inr (in_order m k v.performed wk g (o.1.thread ∙ sym hh.thread))) (λ g. absurd (omega arith))) (cases_order m k))
                (stands m v);
            value = sym (ap (λ (z : Performed). puts z.op) is ∙ n.value);
          })
      by_copy l (inr n) =
          let val : got (at ops i).op ≡ home_value start s.older (at ops i).op.place = n.1 ∙ (s.value ∙ ap (λ u. home_value start s.older u) pl) in
          ⊎_elim
          (λ o. let h = o.holds in
          let b = s.before h.row h.here (h.at_place ∙ sym pl) h.writes in let u = h.until in
          inl (record {
            store = o.index;
            stored = record { performed = o.within; stores = h.stores; same = h.place; before = inl (omega arith) };
            latest = λ m v. ⊎_elim (λ q. o.last m v.performed q) (λ q. absurd (n.0 m (at ops m) (nth_here none ops m v.performed) (q.1, q.0))) (stands m v);
            value = val ∙ sym o.value;
          }))
          (λ o. inr (record {
            none_stored = λ m v. ⊎_elim (λ q. o.0 m v.performed q) (λ q. n.0 m (at ops m) (nth_here none ops m v.performed) (q.1, q.0)) (stands m v);
            value = val ∙ o.1;
          }))
          (home_is_newest ops clock times start s.older s.in_order (λ X m. rows X (s.inside X m)) (at ops i).op.place)

    copied : HasLatest ops i ⊎ HasStart ops start i
    copied = let L = (epochs (at ops i).thread).loaded i (at ops i) (nth_here none ops i w) refl c a in ⊎_elim
        (λ o. let f = o.found in let z : ◌≡◌ {A = ℕ} 0 1 = cc in absurd (omega arith))
        (λ o. by_copy o.row L.a o.thread o.place o.from o.until (split start es o.row judged o.here) L.after
        (subst (λ v. Latest ops (λ m y. StoreIn (at ops i).thread (at ops i).op.place L.a y × (m < i)) v (got (at ops i).op)) (sym o.start) L.value)) L.holds

    -- What is visible to a load from the copy stands before it in the order.
    visible_before : (m : ℕ) → Visible ops i m → StoredBefore ops i m
    visible_before m v = record {
      performed = v.performed;
      stores = v.stores;
      same = v.same;
      before = ⊎_elim (λ b. b) (λ b. kept_unless m i v.performed w b (λ l. (after i m w v.performed l b.0).unread b.1 v.stores c a v.same)) v.seen;
    }

    copied_reads : HasLatest ops i ⊎ HasStart ops start i → ReadsStore ops i ⊎ ReadsStart ops start i
    copied_reads (inl h) = inl (record {
      store = h.store;
      visible = record { performed = h.stored.performed; stores = h.stored.stores; same = h.stored.same; seen = inl h.stored.before };
      latest = λ m v. h.latest m (visible_before m v);
      value = h.value;
    })
    copied_reads (inr h) = inr (record { none_visible = λ m v. h.none_stored m (visible_before m v); value = h.value })

  pub copies_latest : CopiesAreLatest ops start
  copies_latest = copied

  pub all_consistent : ConsistentOps R prog ops start
  all_consistent = record {
    kept = order_kept;
    loads = λ i w c. ⊎_elim (λ a. inl (forwarded_reads i w c a)) (λ a. copied_reads i w c a (copied i w c a)) ((outstanding (at ops i).thread).answers i (at ops i) (nth_here none ops i w) refl c);
  }
