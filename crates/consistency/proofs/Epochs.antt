-- What a thread's epochs, open and past, have to do with what it performed. Assumes nothing.
use Rattle.std.proofs.Common.{◌≡◌, ℕ, ◌<◌, ◌≤◌, Bool, true, false, ◌⊎◌, [], ◌∷◌, ◌++◌, length, Some, None, Option, sym, refl, ap, ◌∙◌, subst, inl, inr, ⊎_elim, arith}
use Rattle.std.proofs.lemmas.Bool.{both_ways, cases_eq, cases_Bool}
use Rattle.semantics.specs.declared.row.Epoch.{Epoch}
use Rattle.semantics.specs.declared.row.Ended.{Ended}
use Rattle.semantics.specs.Classes.{reads, writes, got, puts}
use Rattle.consistency.specs.Performed.{Performed, none}
use Rattle.consistency.proofs.Lists.{Nth, nth_all, nth_old, nth_new}
use Rattle.consistency.proofs.Outstanding.{Ops}

-- Of the operations of which Q holds, the last that performed put the value v.
pub record LatestOne (ops : Ops) (Q : ℕ → Performed → Type 0) (v : ℕ) : Type 0 where
  pub index : ℕ
  pub done : Performed
  pub here : Nth none ops index done
  pub holds : Q index done
  pub value : puts done.op ≡ v
  pub last : (m : ℕ) (z : Performed) → Nth none ops m z → Q m z → m ≤ index

-- The same, or there is none, and v is d.
abbrev pub Latest : Ops → (ℕ → Performed → Type 0) → ℕ → ℕ → Type 0
Latest ops Q d v = LatestOne ops Q v ⊎ (((m : ℕ) (z : Performed) → Nth none ops m z → Q m z → ⊥) × (v ≡ d))

-- One more operation performs of which Q does not hold.
pub latest_no : (ops : Ops) (y : Performed) {Q : ℕ → Performed → Type 0} {d v : ℕ} → (Q (length ops) y → ⊥) → Latest ops Q d v → Latest (ops ++ (y ∷ [])) Q d v
latest_no ops y not_so (inl l) = inl (record { index = l.index; done = l.done; here = nth_old y l.here; holds = l.holds; value = l.value; last = nth_all ops y l.last (λ q. absurd (not_so q)) })
latest_no ops y not_so (inr n) = inr (nth_all ops y n.0 not_so, n.1)

-- One more operation performs of which Q holds.
pub latest_yes : (ops : Ops) (y : Performed) {Q : ℕ → Performed → Type 0} {d v : ℕ} → Q (length ops) y → puts y.op ≡ v → Latest (ops ++ (y ∷ [])) Q d v
latest_yes ops y q e = inl (record { index = length ops; done = y; here = nth_new none ops y; holds = q; value = e; last = nth_all ops y (λ m z h _. let w = h.within in omega arith) (λ _. omega arith) })

-- Q and S hold of the same operations.
pub latest_same : (ops : Ops) {Q S : ℕ → Performed → Type 0} {d v : ℕ} → ((m : ℕ) (z : Performed) → Nth none ops m z → Q m z → S m z) → ((m : ℕ) (z : Performed) → Nth none ops m z → S m z → Q m z) → Latest ops Q d v → Latest ops S d v
latest_same ops f g (inl l) = inl (record { index = l.index; done = l.done; here = l.here; holds = f l.index l.done l.here l.holds; value = l.value; last = λ m z h s. l.last m z h (g m z h s) })
latest_same ops f g (inr n) = inr (λ m z h s. n.0 m z h (g m z h s), n.1)

-- A store of the thread t to the place p, at or after the time a.
pub record StoreIn (t p a : ℕ) (y : Performed) : Type 0 where
  pub thread : y.thread ≡ t
  pub stores : writes y.op.class ≡ true
  pub place : y.op.place ≡ p
  pub from : a ≤ y.time

-- The thread has an open epoch of the place p, begun at a with the value v, for writing if b, whose last use is not before τ.
pub record OpenAt (ep : ℕ → Option Epoch) (p a v : ℕ) (b : Bool) (τ : ℕ) : Type 0 where
  pub epoch : Epoch
  pub found : ep p ≡ Some epoch
  pub from : epoch.from ≡ a
  pub start : epoch.start ≡ v
  pub writes : epoch.writes ≡ b
  pub used : τ ≤ epoch.used

-- It had such an epoch, which ended after τ.
pub record PastAt (Past : Ended → Type 0) (t p a v : ℕ) (b : Bool) (τ : ℕ) : Type 0 where
  pub row : Ended
  pub here : Past row
  pub thread : row.thread ≡ t
  pub place : row.place ≡ p
  pub from : row.from ≡ a
  pub start : row.start ≡ v
  pub writes : row.writes ≡ b
  pub until : τ < row.until

-- Either of them.
abbrev pub HadEpoch : (ℕ → Option Epoch) → (Ended → Type 0) → ℕ → ℕ → ℕ → ℕ → Bool → ℕ → Type 0
HadEpoch ep Past t p a v b τ = OpenAt ep p a v b τ ⊎ PastAt Past t p a v b τ

-- The store x lies in a write epoch of its thread and place.
pub record Stored (ep : ℕ → Option Epoch) (Past : Ended → Type 0) (t : ℕ) (x : Performed) : Type 0 where
  pub a : ℕ
  pub v : ℕ
  pub holds : HadEpoch ep Past t x.op.place a v true x.time
  pub after : a ≤ x.time

-- The k-th that performed, x, which read the copy, lies in an epoch of its thread and place, and has the value of the last store in it, else the one it began with.
pub record Loaded (ops : Ops) (ep : ℕ → Option Epoch) (Past : Ended → Type 0) (t k : ℕ) (x : Performed) : Type 0 where
  pub a : ℕ
  pub v : ℕ
  pub b : Bool
  pub holds : HadEpoch ep Past t x.op.place a v b x.time
  pub after : a ≤ x.time
  pub value : Latest ops (λ m y. StoreIn t x.op.place a y × (m < k)) v (got x.op)

-- `ep` gives the open epoch of each place, `Past` tells the ended ones.
pub record Epochs (ops : Ops) (t clock : ℕ) (ep : ℕ → Option Epoch) (Past : Ended → Type 0) : Type 0 where
  pub placed : (p : ℕ) (e : Epoch) → ep p ≡ Some e → e.place ≡ p
  pub ordered : (p : ℕ) (e : Epoch) → ep p ≡ Some e → (e.from ≤ e.used) × (e.used ≤ clock)
  pub copied : (p : ℕ) (e : Epoch) → ep p ≡ Some e → Latest ops (λ k y. StoreIn t p e.from y) e.start e.copy
  pub apart : (p : ℕ) (e : Epoch) → ep p ≡ Some e → (k : ℕ) (x : Performed) → Nth none ops k x → x.thread ≡ t → x.op.place ≡ p → writes x.op.class ≡ true → (x.time < e.from) ⊎ (x.time ≤ e.used)
  pub spanned : (X : Ended) → Past X → X.thread ≡ t → (X.from < X.until) × (X.until ≤ clock)
  pub ended_with : (X : Ended) → Past X → X.thread ≡ t → Latest ops (λ k y. StoreIn t X.place X.from y × (y.time < X.until)) X.start X.last
  pub stored : (k : ℕ) (x : Performed) → Nth none ops k x → x.thread ≡ t → writes x.op.class ≡ true → Stored ep Past t x
  pub loaded : (k : ℕ) (x : Performed) → Nth none ops k x → x.thread ≡ t → reads x.op.class ≡ true → x.answer ≡ 2 → Loaded ops ep Past t k x

-- One more operation performs.
loaded_still : (ops : Ops) {t : ℕ} {ep : ℕ → Option Epoch} {Past : Ended → Type 0} (y : Performed) {ep' : ℕ → Option Epoch} {k : ℕ} {x : Performed} → k < length ops → ((p a v : ℕ) (b : Bool) (τ : ℕ) → HadEpoch ep Past t p a v b τ → HadEpoch ep' Past t p a v b τ) → Loaded ops ep Past t k x → Loaded (ops ++ (y ∷ [])) ep' Past t k x
loaded_still ops y w go s = record { a = s.a; v = s.v; b = s.b; holds = go _ _ _ _ _ s.holds; after = s.after; value = latest_no ops y (λ q. let n = q.1 in omega arith) s.value }

module _ (ops : Ops) {t clock : ℕ} {ep : ℕ → Option Epoch} {Past : Ended → Type 0} where
  -- The ended epochs of the thread stay the same.
  pub same_past_keeps_epochs : {Past' : Ended → Type 0} → ((X : Ended) → Past' X → X.thread ≡ t → Past X) → ((X : Ended) → Past X → Past' X) → Epochs ops t clock ep Past → Epochs ops t clock ep Past'
  same_past_keeps_epochs {Past'} back on q = record {
    placed = q.placed;
    ordered = q.ordered;
    copied = q.copied;
    apart = q.apart;
    spanned = λ X h th. q.spanned X (back X h th) th;
    ended_with = λ X h th. q.ended_with X (back X h th) th;
    stored = λ k x h th c. let s = q.stored k x h th c in record { a = s.a; v = s.v; holds = go s.holds; after = s.after };
    loaded = λ k x h th c d. let s = q.loaded k x h th c d in record { a = s.a; v = s.v; b = s.b; holds = go s.holds; after = s.after; value = s.value };
  }
    where
      go : {p a v : ℕ} {b : Bool} {τ : ℕ} → HadEpoch ep Past t p a v b τ → HadEpoch ep Past' t p a v b τ
      go = ⊎_elim inl (λ h. inr (record { row = h.row; here = on h.row h.here; thread = h.thread; place = h.place; from = h.from; start = h.start; writes = h.writes; until = h.until }))

  -- The thread's clock is raised.
  pub raise_keeps_epochs : (τ : ℕ) → clock ≤ τ → Epochs ops t clock ep Past → Epochs ops t τ ep Past
  raise_keeps_epochs τ l q = record {
    placed = q.placed;
    copied = q.copied;
    apart = q.apart;
    ended_with = q.ended_with;
    stored = q.stored;
    loaded = q.loaded;
    ordered = λ p e f. let o = q.ordered p e f in omega arith;
    spanned = λ X h th. let o = q.spanned X h th in omega arith;
  }

  -- An operation performs that uses no epoch of the thread.
  pub pass_keeps_epochs : (y : Performed) → (y.thread ≡ t → (writes y.op.class ≡ true → ⊥) × (reads y.op.class ≡ true → y.answer ≡ 2 → ⊥)) → Epochs ops t clock ep Past → Epochs (ops ++ (y ∷ [])) t clock ep Past
  pass_keeps_epochs y not_so q = record {
    placed = q.placed;
    ordered = q.ordered;
    spanned = q.spanned;
    copied = λ p e f. latest_no ops y (λ i. (not_so i.thread).0 i.stores) (q.copied p e f);
    apart = λ p e f. nth_all ops y (q.apart p e f) (λ th _ c. absurd ((not_so th).0 c));
    ended_with = λ X h th. latest_no ops y (λ i. (not_so i.0.thread).0 i.0.stores) (q.ended_with X h th);
    stored = nth_all ops y q.stored (λ th c. absurd ((not_so th).0 c));
    loaded = nth_all ops y (λ k x h th c a. loaded_still ops y h.within (λ _ _ _ _ _ g. g) (q.loaded k x h th c a)) (λ th c a. absurd ((not_so th).1 c a));
  }

  -- An epoch begins.
  pub begin_keeps_epochs : (ep' : ℕ → Option Epoch) (p τ : ℕ) (e : Epoch) → ep p ≡ None → ep' p ≡ Some e → ((q : ℕ) → (q ≡ p → ⊥) → ep' q ≡ ep q)
      → e.place ≡ p → e.from ≡ τ → e.used ≡ τ → e.copy ≡ e.start → clock ≤ τ → Epochs ops t clock ep Past → Epochs ops t τ ep' Past
  begin_keeps_epochs ep' p τ e free new same ePlace eFrom eUsed eCopy l q = record {
    placed = by (λ r d. d.place ≡ r) ePlace q.placed;
    ordered = by (λ r d. (d.from ≤ d.used) × (d.used ≤ τ)) (omega arith) (λ r d f. let o = q.ordered r d f in omega arith);
    copied = by (λ r d. Latest ops (λ k y. StoreIn t r d.from y) d.start d.copy) (inr (λ m z h i. let b = early m z h i.thread i.place i.stores in let c = i.from in omega arith, eCopy)) q.copied;
    apart = by (λ r d. (k : ℕ) (x : Performed) → Nth none ops k x → x.thread ≡ t → x.op.place ≡ r → writes x.op.class ≡ true → (x.time < d.from) ⊎ (x.time ≤ d.used))
        (λ k x h th pl c. let b = early k x h th pl c in inl (omega arith)) q.apart;
    spanned = λ X h th. let o = q.spanned X h th in omega arith;
    ended_with = q.ended_with;
    stored = λ k x h th c. let s = q.stored k x h th c in record { a = s.a; v = s.v; holds = go s.holds; after = s.after };
    loaded = λ k x h th c d. let s = q.loaded k x h th c d in record { a = s.a; v = s.v; b = s.b; holds = go s.holds; after = s.after; value = s.value };
  }
    where
      by : (C : ℕ → Epoch → Type 0) → C p e → ((r : ℕ) (d : Epoch) → ep r ≡ Some d → C r d) → (r : ℕ) (d : Epoch) → ep' r ≡ Some d → C r d
      by C here there r d f = ⊎_elim
          (λ i. let j : ep' p ≡ Some d = subst (λ u. ep' u ≡ Some d) i f in let k : d ≡ e = cc in rw (i, k) here)
          (λ ne. there r d (sym (same r ne) ∙ f)) (cases_eq r p)

      early : (k : ℕ) (x : Performed) → Nth none ops k x → x.thread ≡ t → x.op.place ≡ p → writes x.op.class ≡ true → x.time < τ
      early k x h th pl c = let s = q.stored k x h th c in ⊎_elim
          (λ o. let f = o.found in let z : ◌≡◌ {A = ℕ} 0 1 = let g : ep p ≡ Some o.epoch = rw pl at f in cc in absurd (omega arith))
          (λ o. let u = q.spanned o.row o.here o.thread in let w = o.until in omega arith) s.holds

      go : {r a v : ℕ} {b : Bool} {σ : ℕ} → HadEpoch ep Past t r a v b σ → HadEpoch ep' Past t r a v b σ
      go {r} = ⊎_elim (λ h. ⊎_elim
          (λ i. let f = h.found in let z : ◌≡◌ {A = ℕ} 0 1 = let g : ep p ≡ Some h.epoch = rw i at f in cc in absurd (omega arith))
          (λ ne. inl (record { epoch = h.epoch; found = same r ne ∙ h.found; from = h.from; start = h.start; writes = h.writes; used = h.used })) (cases_eq r p)) inr

  -- An operation uses an open epoch: e is it before, d after.
  pub touch_keeps_epochs : (ep' : ℕ → Option Epoch) (y : Performed) (e d : Epoch) → ep y.op.place ≡ Some e → ep' y.op.place ≡ Some d → ((q : ℕ) → (q ≡ y.op.place → ⊥) → ep' q ≡ ep q)
      → d.place ≡ e.place → d.from ≡ e.from → d.used ≡ y.time → d.start ≡ e.start → d.writes ≡ e.writes
      → y.thread ≡ t → clock ≤ y.time
      → (writes y.op.class ≡ true → (e.writes ≡ true) × (d.copy ≡ puts y.op)) → (writes y.op.class ≡ false → d.copy ≡ e.copy) → (reads y.op.class ≡ true → got y.op ≡ e.copy)
      → Epochs ops t clock ep Past → Epochs (ops ++ (y ∷ [])) t y.time ep' Past
  touch_keeps_epochs ep' y e d old new same dPlace dFrom dUsed dStart dWrites yth l wr rd val q =
      let oe = q.ordered y.op.place e old in record {
        placed = by (λ r f. f.place ≡ r) (dPlace ∙ q.placed y.op.place e old) (λ r f i ne. q.placed r f i);
        ordered = by (λ r f. (f.from ≤ f.used) × (f.used ≤ y.time)) (omega arith) (λ r f i ne. let o = q.ordered r f i in omega arith);
        copied = by (λ r f. Latest (ops ++ (y ∷ [])) (λ k z. StoreIn t r f.from z) f.start f.copy)
            (rw (dFrom, dStart) (⊎_elim
            (λ c. latest_yes ops y (record { thread = yth; stores = c; place = refl; from = omega arith }) (sym (wr c).1))
            (λ c. rw (rd c) (latest_no ops y (λ i. both_ways _ c i.stores) (q.copied y.op.place e old))) (cases_Bool (writes y.op.class))))
            (λ r f i ne. latest_no ops y (λ j. ne (sym j.place)) (q.copied r f i));
        apart = by (λ r f. (k : ℕ) (x : Performed) → Nth none (ops ++ (y ∷ [])) k x → x.thread ≡ t → x.op.place ≡ r → writes x.op.class ≡ true → (x.time < f.from) ⊎ (x.time ≤ f.used))
            (nth_all ops y (λ k x h th pl c. ⊎_elim (λ u. inl (omega arith)) (λ u. inr (omega arith)) (q.apart y.op.place e old k x h th pl c)) (λ th pl c. inr (omega arith)))
            (λ r f i ne. nth_all ops y (q.apart r f i) (λ th pl c. absurd (ne (sym pl))));
        spanned = λ X h th. let o = q.spanned X h th in omega arith;
        ended_with = λ X h th. let o = q.spanned X h th in latest_no ops y (λ i. let u = i.1 in omega arith) (q.ended_with X h th);
        stored = nth_all ops y (λ k x h th c. let s = q.stored k x h th c in record { a = s.a; v = s.v; holds = go s.holds; after = s.after })
            (λ th c. record { a = e.from; v = e.start; holds = inl (record { epoch = d; found = new; from = dFrom; start = dStart; writes = dWrites ∙ (wr c).0; used = omega arith }); after = omega arith });
        loaded = nth_all ops y (λ k x h th c a. loaded_still ops y h.within (λ _ _ _ _ _ g. go g) (q.loaded k x h th c a))
            (λ th c a. record {
              a = e.from;
              v = e.start;
              b = e.writes;
              holds = inl (record { epoch = d; found = new; from = dFrom; start = dStart; writes = dWrites; used = omega arith });
              after = omega arith;
              value = latest_no ops y (λ i. let u = i.1 in omega arith) (rw (val c) (latest_same ops (λ m z h i. (i, h.within)) (λ m z h i. i.0) (q.copied y.op.place e old)));
            });
      }
    where
      by : (C : ℕ → Epoch → Type 0) → C y.op.place d → ((r : ℕ) (f : Epoch) → ep r ≡ Some f → (r ≡ y.op.place → ⊥) → C r f) → (r : ℕ) (f : Epoch) → ep' r ≡ Some f → C r f
      by C here there r f g = ⊎_elim
          (λ i. let j : ep' y.op.place ≡ Some f = subst (λ u. ep' u ≡ Some f) i g in let k : f ≡ d = cc in rw (i, k) here)
          (λ ne. there r f (sym (same r ne) ∙ g) ne) (cases_eq r y.op.place)

      go : {r a v : ℕ} {b : Bool} {σ : ℕ} → HadEpoch ep Past t r a v b σ → HadEpoch ep' Past t r a v b σ
      go {r} {a} {v} {b} {σ} = ⊎_elim (λ h. ⊎_elim
          (λ i. let f = h.found in let g : ep y.op.place ≡ Some h.epoch = rw i at f in let k : h.epoch ≡ e = cc in
          let oe = q.ordered y.op.place e old in
          let u : e.from ≡ a = ap (λ (z : Epoch). z.from) (sym k) ∙ h.from in
          let w : σ ≤ e.used = rw k at h.used in
          inl (record { epoch = d; found = subst (λ z. ep' z ≡ Some d) (sym i) new; from = dFrom ∙ u; start = dStart ∙ (ap (λ (z : Epoch). z.start) (sym k) ∙ h.start); writes = dWrites ∙ (ap (λ (z : Epoch). z.writes) (sym k) ∙ h.writes); used = omega arith }))
          (λ ne. inl (record { epoch = h.epoch; found = same r ne ∙ h.found; from = h.from; start = h.start; writes = h.writes; used = h.used })) (cases_eq r y.op.place)) inr

  -- An epoch ends: it becomes the row.
  pub end_keeps_epochs : (ep' : ℕ → Option Epoch) (Past' : Ended → Type 0) (p τ : ℕ) (e : Epoch) (row : Ended) → ep p ≡ Some e → ep' p ≡ None → ((q : ℕ) → (q ≡ p → ⊥) → ep' q ≡ ep q)
      → ((X : Ended) → Past' X → Past X ⊎ (X ≡ row)) → ((X : Ended) → Past X → Past' X) → Past' row
      → row.thread ≡ t → row.place ≡ e.place → row.from ≡ e.from → row.until ≡ τ → row.start ≡ e.start → row.last ≡ e.copy → row.writes ≡ e.writes
      → e.used < τ → clock ≤ τ → Epochs ops t clock ep Past → Epochs ops t τ ep' Past'
  end_keeps_epochs ep' Past' p τ e row old new same back on here rTh rPl rFrom rUntil rStart rFinal rWrites l lc q =
      let oe = q.ordered p e old in
      let pl : row.place ≡ p = rPl ∙ q.placed p e old in record {
        placed = by q.placed;
        ordered = by (λ r f i. let o = q.ordered r f i in omega arith);
        copied = by q.copied;
        apart = by q.apart;
        spanned = λ X h th. ⊎_elim (λ g. let o = q.spanned X g th in omega arith) (λ i. let u = ap (λ (z : Ended). z.from) i in let w = ap (λ (z : Ended). z.until) i in omega arith) (back X h);
        ended_with = λ X h th. ⊎_elim (λ g. q.ended_with X g th)
            (λ i. rw i (rw (pl, rFrom, rUntil, rStart, rFinal) (latest_same ops
            (λ m z n j. (j, ⊎_elim (λ u. let w = j.from in absurd (omega arith)) (λ u. omega arith) (q.apart p e old m z n j.thread j.place j.stores)))
            (λ m z n j. j.0) (q.copied p e old)))) (back X h);
        stored = λ k x h th c. let s = q.stored k x h th c in record { a = s.a; v = s.v; holds = go s.holds; after = s.after };
        loaded = λ k x h th c d. let s = q.loaded k x h th c d in record { a = s.a; v = s.v; b = s.b; holds = go s.holds; after = s.after; value = s.value };
      }
    where
      by : {C : ℕ → Epoch → Type 0} → ((r : ℕ) (f : Epoch) → ep r ≡ Some f → C r f) → (r : ℕ) (f : Epoch) → ep' r ≡ Some f → C r f
      by there r f g = ⊎_elim
          (λ i. let j : ep' p ≡ Some f = subst (λ u. ep' u ≡ Some f) i g in let z : ◌≡◌ {A = ℕ} 0 1 = cc in absurd (omega arith))
          (λ ne. there r f (sym (same r ne) ∙ g)) (cases_eq r p)

      go : {r a v : ℕ} {b : Bool} {σ : ℕ} → HadEpoch ep Past t r a v b σ → HadEpoch ep' Past' t r a v b σ
      go {r} {a} {v} {b} {σ} = ⊎_elim (λ h. ⊎_elim
          (λ i. let f = h.found in let g : ep p ≡ Some h.epoch = rw i at f in let k : h.epoch ≡ e = cc in
          let w : σ ≤ e.used = rw k at h.used in
          inr (record { row = row; here = here; thread = rTh; place = rPl ∙ (q.placed p e old ∙ sym i); from = rFrom ∙ (ap (λ (z : Epoch). z.from) (sym k) ∙ h.from); start = rStart ∙ (ap (λ (z : Epoch). z.start) (sym k) ∙ h.start); writes = rWrites ∙ (ap (λ (z : Epoch). z.writes) (sym k) ∙ h.writes); until = omega arith }))
          (λ ne. inl (record { epoch = h.epoch; found = same r ne ∙ h.found; from = h.from; start = h.start; writes = h.writes; used = h.used })) (cases_eq r p))
          (λ h. inr (record { row = h.row; here = on h.row h.here; thread = h.thread; place = h.place; from = h.from; start = h.start; writes = h.writes; until = h.until }))
