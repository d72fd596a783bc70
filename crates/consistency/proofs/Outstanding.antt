-- What is outstanding in a thread, beside what the thread has performed. Assumes nothing.
use Rattle.std.proofs.Common.{◌≡◌, ℕ, ◌+◌, ◌<◌, ◌≤◌, Bool, true, false, not, eqb, ◌⊎◌, List, [], ◌∷◌, ◌++◌, length, get_or, sym, refl, ap, ◌∙◌, inl, inr, ⊎_elim, arith}
use Rattle.std.proofs.lemmas.List.{length_push, get_or_push}
use Rattle.std.proofs.lemmas.Bool.{eqb-true, eqb-false, ne_eqb, not-true, cases_eq}
use Rattle.std.specs.List.{filter}
use lib.ListN.{get_or-append}
use Rattle.semantics.specs.declared.row.Operation.{Operation}
use Rattle.semantics.specs.Classes.{reads, writes, touches, got, puts}
use Rattle.semantics.specs.Laws.{Rule, by_rule}
use Rattle.consistency.specs.Performed.{Performed, nothing, none}
use Rattle.consistency.specs.Consistent.{orders_at}
use Rattle.consistency.proofs.Lists.{Mem, mem_push, mem_push_old, mem_push_new, Nth, nth_all, nth_old, nth_new, filter_mem, mem_filter, Rising, rising_push, rising_filter, rising_one}
use Rattle.consistency.proofs.Positions.{ordered_as_rows, order_stays}

abbrev pub Ops : Type 0
Ops = List Performed

-- An operation that performs in a thread.
abbrev pub done_as : ℕ → ℕ → ℕ → Operation → Performed
done_as t τ a o = record { thread = t; op = o; time = τ; answer = a }

-- The operation x performed before o of the same thread, which is outstanding or performed later.
pub record After (R : Rule) (prog : List Operation) (x : Performed) (o : Operation) : Type 0 where
  pub other : o.number ≡ x.op.number → ⊥
  pub free : o.number < x.op.number → orders_at R prog o.number x.op.number ≡ false
  pub places : o.number < x.op.number → touches o.class ≡ true → writes x.op.class ≡ true → o.place ≡ x.op.place → ⊥
  pub unread : o.number < x.op.number → writes o.class ≡ true → reads x.op.class ≡ true → x.answer ≡ 2 → o.place ≡ x.op.place → ⊥

-- The operation of number m is outstanding.
pub record Waits (pend : List Operation) (m : ℕ) : Type 0 where
  pub op : Operation
  pub here : Mem op pend
  pub number : op.number ≡ m

-- The operation of number m has performed.
pub record Did (ops : Ops) (t m : ℕ) : Type 0 where
  pub index : ℕ
  pub done : Performed
  pub here : Nth none ops index done
  pub thread : done.thread ≡ t
  pub number : done.op.number ≡ m

did_still : {ops : Ops} {t m : ℕ} (y : Performed) → Did ops t m → Did (ops ++ (y ∷ [])) t m
did_still y d = record { index = d.index; done = d.done; here = nth_old y d.here; thread = d.thread; number = d.number }

-- What is outstanding, in program order, beside the program and what the thread has performed.
pub record Outstanding (R : Rule) (ops : Ops) (t : ℕ) (pend : List Operation) (commits : ℕ) (prog : List Operation) : Type 0 where
  pub counted : length prog ≡ commits
  pub rising : Rising (λ (o : Operation). o.number) pend
  pub below : (o : Operation) → Mem o pend → o.number < commits
  pub known : (o : Operation) → Mem o pend → get_or prog o.number nothing ≡ o
  pub accounted : (m : ℕ) → m < commits → Waits pend m ⊎ Did ops t m
  pub done_known : (k : ℕ) (x : Performed) → Nth none ops k x → x.thread ≡ t → get_or prog x.op.number nothing ≡ x.op
  pub numbered : (k : ℕ) (x : Performed) → Nth none ops k x → x.thread ≡ t → x.op.number < commits
  pub pending_after : (k : ℕ) (x : Performed) → Nth none ops k x → x.thread ≡ t → (o : Operation) → Mem o pend → After R prog x o
  pub done_after : (i : ℕ) (x : Performed) → Nth none ops i x → x.thread ≡ t → (j : ℕ) (y : Performed) → Nth none ops j y → i < j → y.thread ≡ t → After R prog x y.op
  pub answers : (k : ℕ) (x : Performed) → Nth none ops k x → x.thread ≡ t → reads x.op.class ≡ true → (x.answer ≡ 1) ⊎ (x.answer ≡ 2)

-- Two outstanding operations are ordered by their positions as the rule orders their rows.
pub ordered_outstanding : {R : Rule} (ops : Ops) {t : ℕ} (pend : List Operation) {commits : ℕ} (prog : List Operation) → Outstanding R ops t pend commits prog → (x y : Operation) → Mem x pend → Mem y pend
    → orders_at R prog x.number y.number ≡ by_rule R x y
ordered_outstanding {R} ops pend prog q x y m n = ordered_as_rows R prog x y (q.known x m) (q.known y n)

-- The operation o performed after the i-th.
pub record Done (ops : Ops) (t i : ℕ) (o : Operation) : Type 0 where
  pub index : ℕ
  pub done : Performed
  pub later : i < index
  pub here : Nth none ops index done
  pub thread : done.thread ≡ t
  pub is : done.op ≡ o

-- The store that the i-th that performed, x, has its value from: outstanding then, and the last before it in program order.
pub record Source (ops : Ops) (t : ℕ) (pend : List Operation) (i : ℕ) (x : Performed) : Type 0 where
  pub source : Operation
  pub sooner : source.number < x.op.number
  pub stores : writes source.class ≡ true
  pub same : source.place ≡ x.op.place
  pub value : puts source ≡ got x.op
  pub stands : Mem source pend ⊎ Done ops t i source
  pub last_pending : (o : Operation) → Mem o pend → writes o.class ≡ true → o.place ≡ x.op.place → o.number < x.op.number → o.number ≤ source.number
  pub last_done : (k : ℕ) (y : Performed) → Nth none ops k y → i < k → y.thread ≡ t → writes y.op.class ≡ true → y.op.place ≡ x.op.place → y.op.number < x.op.number → y.op.number ≤ source.number

abbrev pub Sources : Ops → ℕ → List Operation → Type 0
Sources ops t pend = (i : ℕ) (x : Performed) → Nth none ops i x → x.thread ≡ t → reads x.op.class ≡ true → x.answer ≡ 1 → Source ops t pend i x

-- Another thread performs.
pub other_keeps_outstanding : {R : Rule} (ops : Ops) (y : Performed) {t : ℕ} {pend : List Operation} {commits : ℕ} {prog : List Operation} → (y.thread ≡ t → ⊥) → Outstanding R ops t pend commits prog → Outstanding R (ops ++ (y ∷ [])) t pend commits prog
other_keeps_outstanding ops y ne q = record {
  counted = q.counted;
  rising = q.rising;
  below = q.below;
  known = q.known;
  accounted = λ m l. ⊎_elim inl (λ d. inr (did_still y d)) (q.accounted m l);
  done_known = nth_all ops y q.done_known (λ th. absurd (ne th));
  numbered = nth_all ops y q.numbered (λ th. absurd (ne th));
  pending_after = nth_all ops y q.pending_after (λ th. absurd (ne th));
  done_after = nth_all ops y (λ i x h th. nth_all ops y (q.done_after i x h th) (λ l th'. absurd (ne th'))) (λ th. absurd (ne th));
  answers = nth_all ops y q.answers (λ th. absurd (ne th));
}

done_still : {ops : Ops} {t i : ℕ} {o : Operation} (y : Performed) → Done ops t i o → Done (ops ++ (y ∷ [])) t i o
done_still y d = record { index = d.index; done = d.done; later = d.later; here = nth_old y d.here; thread = d.thread; is = d.is }

pub other_keeps_sources : (ops : Ops) (y : Performed) {t : ℕ} {pend : List Operation} → (y.thread ≡ t → ⊥) → Sources ops t pend → Sources (ops ++ (y ∷ [])) t pend
other_keeps_sources ops y ne q = nth_all ops y
    (λ i x h th c a. let s = q i x h th c a in record {
      source = s.source;
      sooner = s.sooner;
      stores = s.stores;
      same = s.same;
      value = s.value;
      stands = ⊎_elim inl (λ d. inr (done_still y d)) s.stands;
      last_pending = s.last_pending;
      last_done = nth_all ops y s.last_done (λ l th'. absurd (ne th'));
    })
    (λ th. absurd (ne th))

-- An operation commits.
commit_keeps_after : {R : Rule} (prog : List Operation) (o : Operation) {x : Performed} {z : Operation} → x.op.number < length prog → After R prog x z → After R (prog ++ (o ∷ [])) x z
commit_keeps_after {R} prog o {x} {z} l a = record {
  other = a.other;
  free = λ u. order_stays R prog o z.number x.op.number (omega arith) l ∙ a.free u;
  places = a.places;
  unread = a.unread;
}

pub commit_keeps_outstanding : {R : Rule} (ops : Ops) {t : ℕ} (pend : List Operation) {commits : ℕ} (prog : List Operation) (o : Operation) → o.number ≡ commits → Outstanding R ops t pend commits prog → Outstanding R ops t (pend ++ (o ∷ [])) (commits + 1) (prog ++ (o ∷ []))
commit_keeps_outstanding {R} ops {t} pend {commits} prog o e q = record {
  counted = let l = length_push prog o in let c = q.counted in omega arith;
  rising = rising_push (λ (o : Operation). o.number) pend o q.rising (λ x m. let b = q.below x m in omega arith);
  below = λ x m. ⊎_elim (λ k. let b = q.below x k in omega arith) (λ r. let b = ap (λ (z : Operation). z.number) r in omega arith) (mem_push x o pend m);
  known = λ x m. ⊎_elim
      (λ k. let b = q.below x k in let c = q.counted in get_or-append prog (o ∷ []) nothing x.number (omega arith) ∙ q.known x k)
      (λ r. let b = ap (λ (z : Operation). z.number) r in let c = q.counted in get_or_push prog o nothing x.number (omega arith) ∙ sym r) (mem_push x o pend m);
  accounted = λ m l. ⊎_elim
      (λ r. inl (record { op = o; here = mem_push_new o pend; number = e ∙ sym r }))
      (λ ne. ⊎_elim (λ k. inl (record { op = k.op; here = mem_push_old k.op o pend k.here; number = k.number })) inr (q.accounted m (omega arith))) (cases_eq m commits);
  done_known = λ k x h th. get_or-append prog (o ∷ []) nothing x.op.number (within k x h th) ∙ q.done_known k x h th;
  numbered = λ k x h th. let b = q.numbered k x h th in omega arith;
  pending_after = λ k x h th z m. ⊎_elim (λ n. commit_keeps_after prog o (within k x h th) (q.pending_after k x h th z n))
      (λ r. let b = q.numbered k x h th in let f = ap (λ (z : Operation). z.number) r in
      record { other = λ u. omega arith; free = λ u. absurd (omega arith); places = λ u _ _ _. omega arith; unread = λ u _ _ _ _. omega arith })
      (mem_push z o pend m);
  done_after = λ i x h th j y g l th'. commit_keeps_after prog o (within i x h th) (q.done_after i x h th j y g l th');
  answers = q.answers;
}
  where
    within : (k : ℕ) (x : Performed) → Nth none ops k x → x.thread ≡ t → x.op.number < length prog
    within k x h th = let b = q.numbered k x h th in let c = q.counted in omega arith

pub commit_keeps_sources : {R : Rule} (ops : Ops) {t : ℕ} (pend : List Operation) {commits : ℕ} {prog : List Operation} (o : Operation) → o.number ≡ commits → Outstanding R ops t pend commits prog → Sources ops t pend → Sources ops t (pend ++ (o ∷ []))
commit_keeps_sources ops {t} pend o e q f = λ i x h th c a. let s = f i x h th c a in record {
  source = s.source;
  sooner = s.sooner;
  stores = s.stores;
  same = s.same;
  value = s.value;
  stands = ⊎_elim (λ m. inl (mem_push_old s.source o pend m)) inr s.stands;
  last_pending = λ z m c' p' l. ⊎_elim (λ k. s.last_pending z k c' p' l)
      (λ r. let b = q.numbered i x h th in let g = ap (λ (z : Operation). z.number) r in absurd (omega arith)) (mem_push z o pend m);
  last_done = s.last_done;
}

-- An operation performs.
abbrev pub left_over : Operation → List Operation → List Operation
left_over o pend = filter (λ x. not (eqb x.number o.number)) pend

left : (o z : Operation) (pend : List Operation) → Mem z (left_over o pend) → Mem z pend × (z.number ≡ o.number → ⊥)
left o z pend m = let k = filter_mem (λ x. not (eqb x.number o.number)) pend z m in (k.0, eqb-false z.number o.number (not-true _ k.1))

stays : (o z : Operation) (pend : List Operation) → Mem z pend → (z.number ≡ o.number → ⊥) → Mem z (left_over o pend)
stays o z pend m ne = mem_filter (λ x. not (eqb x.number o.number)) pend z m (ap not (ne_eqb z.number o.number ne))

-- What the laws say when o performs with the answer a.
pub record Lawful (R : Rule) (pend : List Operation) (o : Operation) (a : ℕ) : Type 0 where
  pub here : Mem o pend
  pub free : (z : Operation) → Mem z pend → z.number < o.number → by_rule R z o ≡ false
  pub places : (z : Operation) → Mem z pend → z.number < o.number → touches z.class ≡ true → writes o.class ≡ true → z.place ≡ o.place → ⊥
  pub unread : (z : Operation) → Mem z pend → z.number < o.number → writes z.class ≡ true → reads o.class ≡ true → a ≡ 2 → z.place ≡ o.place → ⊥
  pub answers : reads o.class ≡ true → (a ≡ 1) ⊎ (a ≡ 2)

-- The outstanding store that o, which reads, takes its value from.
pub record Forward (pend : List Operation) (o : Operation) : Type 0 where
  pub source : Operation
  pub here : Mem source pend
  pub sooner : source.number < o.number
  pub stores : writes source.class ≡ true
  pub same : source.place ≡ o.place
  pub value : puts source ≡ got o
  pub last : (z : Operation) → Mem z pend → writes z.class ≡ true → z.place ≡ o.place → z.number < o.number → z.number ≤ source.number

pub perform_keeps_outstanding : {R : Rule} (ops : Ops) {t : ℕ} (pend : List Operation) {commits : ℕ} (prog : List Operation) (o : Operation) (τ a : ℕ) → Lawful R pend o a → Outstanding R ops t pend commits prog
    → Outstanding R (ops ++ (done_as t τ a o ∷ [])) t (left_over o pend) commits prog
perform_keeps_outstanding {R} ops {t} pend {commits} prog o τ a w q =
    let y : Performed = done_as t τ a o in record {
      counted = q.counted;
      rising = rising_filter (λ (o : Operation). o.number) (λ x. not (eqb x.number o.number)) pend q.rising;
      below = λ z m. q.below z (left o z pend m).0;
      known = λ z m. q.known z (left o z pend m).0;
      accounted = λ m l. ⊎_elim
          (λ k. ⊎_elim
          (λ r. inr (record { index = length ops; done = y; here = nth_new none ops y; thread = refl; number = sym r ∙ k.number }))
          (λ ne. inl (record { op = k.op; here = stays o k.op pend k.here ne; number = k.number })) (cases_eq k.op.number o.number))
          (λ d. inr (did_still y d)) (q.accounted m l);
      done_known = nth_all ops y q.done_known (λ th. q.known o w.here);
      numbered = nth_all ops y q.numbered (λ th. q.below o w.here);
      pending_after = nth_all ops y (λ k x h th z m. q.pending_after k x h th z (left o z pend m).0)
          (λ th z m. let l = left o z pend m in record {
            other = l.1;
            free = λ u. ordered_outstanding ops pend prog q z o l.0 w.here ∙ w.free z l.0 u;
            places = w.places z l.0;
            unread = w.unread z l.0;
          });
      done_after = nth_all ops y (λ i x h th. nth_all ops y (q.done_after i x h th) (λ l th'. q.pending_after i x h th o w.here))
          (λ th. nth_all ops y (λ j z g l. let b = g.within in absurd (omega arith)) (λ l. absurd (omega arith)));
      answers = nth_all ops y q.answers (λ th. w.answers);
    }

pub perform_keeps_sources : {R : Rule} (ops : Ops) {t : ℕ} (pend : List Operation) {commits : ℕ} {prog : List Operation} (o : Operation) (τ a : ℕ) → Lawful R pend o a → (reads o.class ≡ true → a ≡ 1 → Forward pend o)
    → Outstanding R ops t pend commits prog → Sources ops t pend → Sources (ops ++ (done_as t τ a o ∷ [])) t (left_over o pend)
perform_keeps_sources {R} ops {t} pend o τ a w fw q f =
    nth_all ops y old new
  where
    y : Performed
    y = done_as t τ a o

    old : (i : ℕ) (x : Performed) → Nth none ops i x → x.thread ≡ t → reads x.op.class ≡ true → x.answer ≡ 1 → Source (ops ++ (y ∷ [])) t (left_over o pend) i x
    old i x h th c b = let s = f i x h th c b in record {
      source = s.source;
      sooner = s.sooner;
      stores = s.stores;
      same = s.same;
      value = s.value;
      stands = ⊎_elim (λ m. go s (eqb s.source.number o.number) refl m) (λ d. inr (done_still y d)) s.stands;
      last_pending = λ z m. s.last_pending z (left o z pend m).0;
      last_done = nth_all ops y s.last_done (λ l th' c' p' n'. s.last_pending o w.here c' p' n');
    }
      where
        go : (s : Source ops t pend i x) (e : Bool) → eqb s.source.number o.number ≡ e → Mem s.source pend → Mem s.source (left_over o pend) ⊎ Done (ops ++ (y ∷ [])) t i s.source
        go s true e m =
            let n = eqb-true s.source.number o.number e in
            let r : s.source ≡ o = rising_one (λ (o : Operation). o.number) pend q.rising s.source o m w.here n in
            inr (record { index = length ops; done = y; later = h.within; here = nth_new none ops y; thread = refl; is = sym r })
        go s false e m = inl (stays o s.source pend m (eqb-false s.source.number o.number e))

    new : t ≡ t → reads o.class ≡ true → a ≡ 1 → Source (ops ++ (y ∷ [])) t (left_over o pend) (length ops) y
    new th c b = let s = fw c b in record {
      source = s.source;
      sooner = s.sooner;
      stores = s.stores;
      same = s.same;
      value = s.value;
      stands = inl (stays o s.source pend s.here (λ e. let l = s.sooner in omega arith));
      last_pending = λ z m. s.last z (left o z pend m).0;
      last_done = nth_all ops y (λ k z g l. let b = g.within in absurd (omega arith)) (λ l. absurd (omega arith));
    }

-- Each time of the thread is at most its clock, and the times do not fall.
pub record Times (ops : Ops) (t clock : ℕ) : Type 0 where
  pub past : (k : ℕ) (x : Performed) → Nth none ops k x → x.thread ≡ t → x.time ≤ clock
  pub rise : (i : ℕ) (x : Performed) → Nth none ops i x → x.thread ≡ t → (j : ℕ) (y : Performed) → Nth none ops j y → i < j → y.thread ≡ t → x.time ≤ y.time

pub other_keeps_times : (ops : Ops) (y : Performed) {t clock : ℕ} → (y.thread ≡ t → ⊥) → Times ops t clock → Times (ops ++ (y ∷ [])) t clock
other_keeps_times ops y ne q = record {
  past = nth_all ops y q.past (λ th. absurd (ne th));
  rise = nth_all ops y (λ i x h th. nth_all ops y (q.rise i x h th) (λ l th'. absurd (ne th'))) (λ th. absurd (ne th));
}

pub raise_keeps_times : {ops : Ops} {t : ℕ} (clock τ : ℕ) → clock ≤ τ → Times ops t clock → Times ops t τ
raise_keeps_times clock τ l q = record { past = λ k x h th. let b = q.past k x h th in omega arith; rise = q.rise }

pub perform_keeps_times : (ops : Ops) (y : Performed) {t : ℕ} (clock : ℕ) → clock ≤ y.time → Times ops t clock → Times (ops ++ (y ∷ [])) t y.time
perform_keeps_times ops y clock l q = record {
  past = nth_all ops y (λ k x h th. let b = q.past k x h th in omega arith) (λ th. omega arith);
  rise = nth_all ops y (λ i x h th. nth_all ops y (q.rise i x h th) (λ l' th'. let b = q.past i x h th in omega arith))
      (λ th. nth_all ops y (λ j z g l. let b = g.within in absurd (omega arith)) (λ l. absurd (omega arith)));
}
