-- Where the calls of a record stand, told by what the calls before them leave. Assumes nothing.
use Rattle.std.proofs.Common.{◌≡◌, ℕ, ◌+◌, ◌<◌, ◌≤◌, Bool, false, cond, not, eqb, ◌⊎◌, List, [], ◌∷◌, ◌++◌, Some, None, Option, sym, refl, ap, ◌∙◌, subst, inl, inr, append_assoc, arith}
use Rattle.std.proofs.lemmas.Bool.{eqb-true, eqb-false, eq-eqb, ne_eqb, cases_eq}
use Rattle.std.proofs.lemmas.Bool.Decides.{nat_tests}
use Rattle.std.proofs.lemmas.List.{append-nil}
use Rattle.std.specs.List.{find, filter}
use Rattle.semantics.specs.Calls.{Call, preset, commit, perform, advance, begin, end, report, drop, settle, close}
use Rattle.honest.specs.Limits.{Notice, ThreadUse, Use, no_use, committing, performing, advancing, beginning, ending, after, opened_from}
use Rattle.honest.specs.Machine.{Every, put}
use Rattle.honest.specs.Record.{moment, count, is_end, is_report, clock, clock_at, clock_from, next_time, NotAfter, Stands, InPlace}
use Rattle.honest.proofs.Lists.{by_test, none≢some, every_to, every_append, every_filter}

-- The time of the next step of a thread that has one: an advance is no step.
abbrev pub step_time : ℕ → List Call → Option ℕ
step_time t [] = None
step_time t (preset p v ∷ cs) = step_time t cs
step_time t (commit u c p v ∷ cs) = step_time t cs
step_time t (perform u k τ ∷ cs) = cond (eqb u t) (Some τ) (step_time t cs)
step_time t (advance u τ ∷ cs) = step_time t cs
step_time t (begin u k p v τ ∷ cs) = cond (eqb u t) (Some τ) (step_time t cs)
step_time t (end u p v τ ∷ cs) = cond (eqb u t) (Some τ) (step_time t cs)
step_time t (report k ∷ cs) = step_time t cs
step_time t (drop k ∷ cs) = step_time t cs
step_time t (settle ∷ cs) = step_time t cs
step_time t (close ∷ cs) = step_time t cs

not_after_lower : (τ υ : ℕ) (x : Option ℕ) → τ ≤ υ → NotAfter υ x → NotAfter τ x
not_after_lower τ υ None l h = tt
not_after_lower τ υ (Some y) l h = omega arith

-- Advances rise, so a time that is not after the next one is not after the next step's.
step_bound : (n t τ : ℕ) (before later : List Call) → InPlace n before later → NotAfter τ (next_time t later) → NotAfter τ (step_time t later)
step_bound n t τ before [] p h = tt
step_bound n t τ before (preset q v ∷ cs) p h = absurd p.0
step_bound n t τ before (commit u c q v ∷ cs) p h = step_bound n t τ (before ++ (commit u c q v ∷ [])) cs p.1 h
step_bound n t τ before (perform u k υ ∷ cs) p h =
    by_test (λ b. NotAfter τ (cond b (Some υ) (next_time t cs)) → NotAfter τ (cond b (Some υ) (step_time t cs))) (eqb u t) (λ _ l. l) (λ _ l. step_bound n t τ (before ++ (perform u k υ ∷ [])) cs p.1 l) h
step_bound n t τ before (advance u υ ∷ cs) p h =
    by_test (λ b. eqb u t ≡ b → NotAfter τ (cond b (Some υ) (next_time t cs)) → NotAfter τ (step_time t cs)) (eqb u t)
    (λ _ b l. not_after_lower τ υ (step_time t cs) l (step_bound n t υ (before ++ (advance u υ ∷ [])) cs p.1 (subst (λ z. NotAfter υ (next_time z cs)) (eqb-true u t b) p.0.2)))
    (λ _ _ l. step_bound n t τ (before ++ (advance u υ ∷ [])) cs p.1 l) refl h
step_bound n t τ before (begin u k q v υ ∷ cs) p h =
    by_test (λ b. NotAfter τ (cond b (Some υ) (next_time t cs)) → NotAfter τ (cond b (Some υ) (step_time t cs))) (eqb u t) (λ _ l. l) (λ _ l. step_bound n t τ (before ++ (begin u k q v υ ∷ [])) cs p.1 l) h
step_bound n t τ before (end u q v υ ∷ cs) p h =
    by_test (λ b. NotAfter τ (cond b (Some υ) (next_time t cs)) → NotAfter τ (cond b (Some υ) (step_time t cs))) (eqb u t) (λ _ l. l) (λ _ l. step_bound n t τ (before ++ (end u q v υ ∷ [])) cs p.1 l) h
step_bound n t τ before (report k ∷ cs) p h = step_bound n t τ (before ++ (report k ∷ [])) cs p.1 h
step_bound n t τ before (drop k ∷ cs) p h = absurd p.0
step_bound n t τ before (settle ∷ cs) p h = step_bound n t τ (before ++ (settle ∷ [])) cs p.1 h
step_bound n t τ before (close ∷ cs) p h = absurd p.0

-- Where a call may stand, by what the calls before it leave.
abbrev pub Placed : ℕ → Use → Call → List Call → Type 0
Placed n a (preset p v) later = ⊥
Placed n a (commit t c p v) later = Unit {0}
Placed n a (perform t k τ) later = Unit {0}
Placed n a (advance t τ) later = (t < n) × ((a.threads t).clock ≤ τ) × NotAfter τ (step_time t later)
Placed n a (begin t k p v τ) later = Unit {0}
Placed n a (end t p v τ) later = Unit {0}
Placed n a (report k) later = (e : Notice) × (find (λ e. eqb e.number k) a.owed ≡ Some e)
Placed n a (drop k) later = ⊥
Placed n a settle later = Unit {0}
Placed n a close later = ⊥

abbrev pub AllPlaced : ℕ → Use → List Call → Type 0
AllPlaced n a [] = a.owed ≡ []
AllPlaced n a (c ∷ cs) = Placed n a c cs × AllPlaced n (after n a c) cs

-- What the calls so far leave, counted.
record Counted (done : List Call) (a : Use) : Type 0 where
  clocks : (t : ℕ) → (a.threads t).clock ≡ clock t done
  ended : a.ended ≡ count is_end done
  there : (k : ℕ) → k < a.ended → count (is_report k) done ≡ 0 → (e : Notice) × (find (λ e. eqb e.number k) a.owed ≡ Some e)
  only : Every (λ e. (e.number < a.ended) × (count (is_report e.number) done ≡ 0)) a.owed
  fresh : (k : ℕ) → a.ended ≤ k → count (is_report k) done ≡ 0

count_push : (f : Call → Bool) (done : List Call) (c : Call) → count f (done ++ (c ∷ [])) ≡ cond (f c) (count f done + 1) (count f done)
count_push f [] c = refl
count_push f (x ∷ done) c = let r = count_push f done c in grind arith

clock_push : (t x : ℕ) (done : List Call) (c : Call) → clock_from t x (done ++ (c ∷ [])) ≡ clock_at t (moment c) (clock_from t x done)
clock_push t x [] c = refl
clock_push t x (d ∷ done) c = clock_push t (clock_at t (moment d) x) done c

-- The clocks after a change of one thread.
clock_put : (f : ℕ → ThreadUse) (t : ℕ) (w : ThreadUse) (u : ℕ) → (put f t w u).clock ≡ cond (eqb u t) w.clock (f u).clock
clock_put f t w u = by_test (λ b. (cond {A = ThreadUse} b w (f u)).clock ≡ cond b w.clock (f u).clock) (eqb u t) (λ _. refl) (λ _. refl)

clock_kept : (f : ℕ → ThreadUse) (t : ℕ) (w : ThreadUse) → w.clock ≡ (f t).clock → (u : ℕ) → (put f t w u).clock ≡ (f u).clock
clock_kept f t w e u = by_test (λ b. (cond {A = ThreadUse} b w (f u)).clock ≡ (f u).clock) (eqb u t) (λ b. e ∙ ap (λ z. (f z).clock) (sym (eqb-true u t b))) (λ _. refl)

-- A call that is neither an end nor a report.
counted_else : (done : List Call) (a a' : Use) (c : Call) → Counted done a → is_end c ≡ false → ((k : ℕ) → is_report k c ≡ false) → a'.ended ≡ a.ended → a'.owed ≡ a.owed →
    ((t : ℕ) → (a'.threads t).clock ≡ clock_at t (moment c) (a.threads t).clock) → Counted (done ++ (c ∷ [])) a'
counted_else done a a' c h ne nr e o cl =
    let rs : (k : ℕ) → count (is_report k) (done ++ (c ∷ [])) ≡ count (is_report k) done = λ k. count_push (is_report k) done c ∙ ap (λ b. cond b (count (is_report k) done + 1) (count (is_report k) done)) (nr k) in
    record {
      clocks = λ t. cl t ∙ ap (λ x. clock_at t (moment c) x) (h.clocks t) ∙ sym (clock_push t 0 done c);
      ended = e ∙ h.ended ∙ sym (count_push is_end done c ∙ ap (λ b. cond b (count is_end done + 1) (count is_end done)) ne);
      there = λ k l z. let x = h.there k (subst (λ y. k < y) e l) (sym (rs k) ∙ z) in (x.0, ap (find (λ e. eqb e.number k)) o ∙ x.1);
      only = subst (Every (λ x. (x.number < a'.ended) × (count (is_report x.number) (done ++ (c ∷ [])) ≡ 0))) (sym o)
          (every_to (λ x p. (subst (λ y. x.number < y) (sym e) p.0, rs x.number ∙ p.1)) a.owed h.only);
      fresh = λ k l. rs k ∙ h.fresh k (subst (λ y. y ≤ k) e l);
    }

find_past_push : (xs : List Notice) (y : Notice) (k : ℕ) (e : Notice) → find (λ e. eqb e.number k) xs ≡ Some e → find (λ e. eqb e.number k) (xs ++ (y ∷ [])) ≡ Some e
find_past_push [] y k e f = absurd (none≢some f)
find_past_push (x ∷ xs) y k e f = let r = find_past_push xs y k e in grind arith

find_fresh : (xs : List Notice) (m : ℕ) (y : Notice) → Every (λ e. e.number < m) xs → y.number ≡ m → find (λ e. eqb e.number m) (xs ++ (y ∷ [])) ≡ Some y
find_fresh [] m y h e = let b = eq-eqb y.number m e in grind arith
find_fresh (x ∷ xs) m y h e = let r = find_fresh xs m y h.1 e in let n = ne_eqb x.number m (let l = h.0 in omega arith) in grind arith

counted_end : (done : List Call) (a : Use) (n t p v τ : ℕ) → Counted done a → Counted (done ++ (end t p v τ ∷ [])) (after n a (end t p v τ))
counted_end done a n t p v τ h =
    let c = end t p v τ in
    let y : Notice = record { number = a.ended; from = opened_from p (a.threads t) } in
    let rs : (k : ℕ) → count (is_report k) (done ++ (c ∷ [])) ≡ count (is_report k) done = λ k. count_push (is_report k) done c in
    record {
      clocks = λ u. clock_put a.threads t (ending p τ (a.threads t)) u ∙ ap (λ x. clock_at u (moment c) x) (h.clocks u) ∙ sym (clock_push u 0 done c);
      ended = ap (λ z. z + 1) h.ended ∙ sym (count_push is_end done c);
      there = λ k l z. go k l (sym (rs k) ∙ z) (cases_eq k a.ended);
      only = every_append (λ x. (x.number < a.ended + 1) × (count (is_report x.number) (done ++ (c ∷ [])) ≡ 0)) a.owed (y ∷ [])
          (every_to (λ x p. (let l = p.0 in omega arith, rs x.number ∙ p.1)) a.owed h.only) ((omega arith, rs a.ended ∙ h.fresh a.ended (omega arith)), tt);
      fresh = λ k l. rs k ∙ h.fresh k (omega arith);
    }
  where
    go : (k : ℕ) → k < a.ended + 1 → count (is_report k) done ≡ 0 → (k ≡ a.ended) ⊎ (k ≡ a.ended → ⊥) → (e : Notice) × (find (λ e. eqb e.number k) (after n a (end t p v τ)).owed ≡ Some e)
    go k l z (inl e) = let y : Notice = record { number = a.ended; from = opened_from p (a.threads t) } in
        (y, subst (λ m. find (λ e. eqb e.number m) (a.owed ++ (y ∷ [])) ≡ Some y) (sym e) (find_fresh a.owed a.ended y (every_to (λ x p. p.0) a.owed h.only) refl))
    go k l z (inr m) = let y : Notice = record { number = a.ended; from = opened_from p (a.threads t) } in
        let x = h.there k (omega arith) z in (x.0, find_past_push a.owed y k x.0 x.1)

find_not : (xs : List Notice) (j k : ℕ) → (k ≡ j → ⊥) → find (λ e. eqb e.number k) (filter (λ e. not (eqb e.number j)) xs) ≡ find (λ e. eqb e.number k) xs
find_not [] j k n = refl
find_not (x ∷ xs) j k n = let r = find_not xs j k n in grind (arith, nat_tests)

only_not : (xs : List Notice) (j : ℕ) → Every (λ e. e.number ≡ j → ⊥) (filter (λ e. not (eqb e.number j)) xs)
only_not [] j = tt
only_not (x ∷ xs) j = let r = only_not xs j in
    by_test (λ b. eqb x.number j ≡ b → Every (λ e. e.number ≡ j → ⊥) (cond (not b) (x ∷ filter (λ e. not (eqb e.number j)) xs) (filter (λ e. not (eqb e.number j)) xs))) (eqb x.number j)
    (λ _ _. r) (λ _ b. (eqb-false x.number j b, r)) refl

every_both : {A : Type 0} (P Q : A → Type 0) (xs : List A) → Every P xs → Every Q xs → Every (λ x. P x × Q x) xs
every_both P Q [] h k = tt
every_both P Q (x ∷ xs) h k = ((h.0, k.0), every_both P Q xs h.1 k.1)

counted_report : (done : List Call) (a : Use) (n j : ℕ) → j < count is_end done → Counted done a → Counted (done ++ (report j ∷ [])) (after n a (report j))
counted_report done a n j l h =
    let c = report j in
    let rs : (k : ℕ) → (k ≡ j → ⊥) → count (is_report k) (done ++ (c ∷ [])) ≡ count (is_report k) done =
    λ k m. count_push (is_report k) done c ∙ ap (λ b. cond b (count (is_report k) done + 1) (count (is_report k) done)) (ne_eqb j k (λ e. m (sym e))) in
    let here : count (is_report j) (done ++ (c ∷ [])) ≡ count (is_report j) done + 1 =
    count_push (is_report j) done c ∙ ap (λ b. cond b (count (is_report j) done + 1) (count (is_report j) done)) (eq-eqb j j refl) in
    let en = h.ended in
    record {
      clocks = λ u. ap (λ x. clock_at u (moment c) x) (h.clocks u) ∙ sym (clock_push u 0 done c);
      ended = h.ended ∙ sym (count_push is_end done c);
      there = λ k m z. go k m z (cases_eq k j) here (rs k);
      only = every_to (λ x p. (p.0.0, rs x.number p.1 ∙ p.0.1)) (filter (λ e. not (eqb e.number j)) a.owed)
          (every_both (λ x. (x.number < a.ended) × (count (is_report x.number) done ≡ 0)) (λ x. x.number ≡ j → ⊥) (filter (λ e. not (eqb e.number j)) a.owed)
          (every_filter (λ x. (x.number < a.ended) × (count (is_report x.number) done ≡ 0)) (λ e. not (eqb e.number j)) a.owed h.only) (only_not a.owed j));
      fresh = λ k m. rs k (omega arith) ∙ h.fresh k m;
    }
  where
    go : (k : ℕ) → k < a.ended → count (is_report k) (done ++ (report j ∷ [])) ≡ 0 → (k ≡ j) ⊎ (k ≡ j → ⊥) → count (is_report j) (done ++ (report j ∷ [])) ≡ count (is_report j) done + 1 →
        ((k ≡ j → ⊥) → count (is_report k) (done ++ (report j ∷ [])) ≡ count (is_report k) done) → (e : Notice) × (find (λ e. eqb e.number k) (filter (λ e. not (eqb e.number j)) a.owed) ≡ Some e)
    go k m z (inl e) here rs = let w : count (is_report j) done + 1 ≡ 0 = sym here ∙ ap (λ i. count (is_report i) (done ++ (report j ∷ []))) (sym e) ∙ z in absurd (omega arith)
    go k m z (inr e) here rs = let x = h.there k m (sym (rs e) ∙ z) in (x.0, find_not a.owed j k e ∙ x.1)

counted_next : (n : ℕ) (done : List Call) (a : Use) (c : Call) (later : List Call) → Stands n done c later → Counted done a → Counted (done ++ (c ∷ [])) (after n a c)
counted_next n done a (preset p v) later s h = absurd s
counted_next n done a (commit t c p v) later s h = counted_else done a _ (commit t c p v) h refl (λ _. refl) refl refl (clock_kept a.threads t (committing (a.threads t)) refl)
counted_next n done a (perform t k τ) later s h = counted_else done a _ (perform t k τ) h refl (λ _. refl) refl refl (clock_put a.threads t (performing τ (a.threads t)))
counted_next n done a (advance t τ) later s h = counted_else done a _ (advance t τ) h refl (λ _. refl) refl refl (clock_put a.threads t (advancing τ (a.threads t)))
counted_next n done a (begin t k p v τ) later s h = counted_else done a _ (begin t k p v τ) h refl (λ _. refl) refl refl (clock_put a.threads t (beginning p τ (a.threads t)))
counted_next n done a (end t p v τ) later s h = counted_end done a n t p v τ h
counted_next n done a (report k) later s h = counted_report done a n k s.0 h
counted_next n done a (drop k) later s h = absurd s
counted_next n done a settle later s h = counted_else done a _ settle h refl (λ _. refl) refl refl (λ _. refl)
counted_next n done a close later s h = absurd s

placed_by : (n : ℕ) (done : List Call) (a : Use) (c : Call) (later : List Call) → Counted done a → InPlace n done (c ∷ later) → Placed n a c later
placed_by n done a (preset p v) later h s = s.0
placed_by n done a (commit t c p v) later h s = tt
placed_by n done a (perform t k τ) later h s = tt
placed_by n done a (advance t τ) later h s = (s.0.0, (let c = h.clocks t in let l = s.0.1 in omega arith), step_bound n t τ (done ++ (advance t τ ∷ [])) later s.1 s.0.2)
placed_by n done a (begin t k p v τ) later h s = tt
placed_by n done a (end t p v τ) later h s = tt
placed_by n done a (report k) later h s = h.there k (let e = h.ended in let l = s.0.0 in omega arith) s.0.1
placed_by n done a (drop k) later h s = s.0
placed_by n done a settle later h s = tt
placed_by n done a close later h s = s.0

none_left : (n : ℕ) (done : List Call) (xs : List Notice) (a : Use) → a.owed ≡ xs → Counted done a → ((k : ℕ) → k < count is_end done → count (is_report k) done ≡ 1) → a.owed ≡ []
none_left n done [] a e h r = e
none_left n done (x ∷ xs) a e h r =
    let o = subst (Every (λ e. (e.number < a.ended) × (count (is_report e.number) done ≡ 0))) e h.only in
    let z = r x.number (let l = o.0.0 in let m = h.ended in omega arith) in let y = o.0.1 in absurd (omega arith)

all_placed : (n : ℕ) (cs done : List Call) (a : Use) → Counted done a → InPlace n done cs → ((k : ℕ) → k < count is_end (done ++ cs) → count (is_report k) (done ++ cs) ≡ 1) → AllPlaced n a cs
all_placed n [] done a h p r = none_left n done a.owed a refl h (subst (λ z. (k : ℕ) → k < count is_end z → count (is_report k) z ≡ 1) (append-nil done) r)
all_placed n (c ∷ cs) done a h p r = (
  placed_by n done a c cs h p,
  all_placed n cs (done ++ (c ∷ [])) (after n a c) (counted_next n done a c cs p.0 h) p.1 (subst (λ z. (k : ℕ) → k < count is_end z → count (is_report k) z ≡ 1) (sym (append_assoc done (c ∷ []) cs)) r),
)

pub placed_body : (n : ℕ) (body : List Call) → InPlace n [] body → ((k : ℕ) → k < count is_end body → count (is_report k) body ≡ 1) → AllPlaced n no_use body
placed_body n body p r = all_placed n body [] no_use (record { clocks = λ t. refl; ended = refl; there = λ k l z. absurd (omega arith); only = tt; fresh = λ k l. refl }) p r
