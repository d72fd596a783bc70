-- The order of what performed is a strict total order, and goes along the performing of each thread. Assumes nothing.
use Rattle.std.proofs.Common.{◌≡◌, ℕ, ◌<◌, ◌⊎◌, length, sym, refl, ◌∙◌, inl, inr, ⊎_elim, arith}
use Rattle.std.proofs.lemmas.Bool.{cases_order}
use Rattle.consistency.specs.Performed.{Performed, none, performs, at, Earlier, Before}
use Rattle.consistency.specs.Promises.{OrderIsTotal}
use Rattle.consistency.proofs.Lists.{nth_here}
use Rattle.consistency.proofs.Outstanding.{Ops, Times}

pub earlier_chains : (i j k : ℕ) (x y z : Performed) → Earlier i x j y → Earlier j y k z → Earlier i x k z
earlier_chains i j k x y z (inl a) (inl b) = inl (omega arith)
earlier_chains i j k x y z (inl a) (inr b) = let c = b.0 in inl (omega arith)
earlier_chains i j k x y z (inr a) (inl b) = let c = a.0 in inl (omega arith)
earlier_chains i j k x y z (inr a) (inr b) = inr (a.0 ∙ b.0, by a.1 b.1)
  where
    by : (x.thread < y.thread) ⊎ ((x.thread ≡ y.thread) × (i < j)) → (y.thread < z.thread) ⊎ ((y.thread ≡ z.thread) × (j < k)) → (x.thread < z.thread) ⊎ ((x.thread ≡ z.thread) × (i < k))
    by (inl p) (inl q) = inl (omega arith)
    by (inl p) (inr q) = let c = q.0 in inl (omega arith)
    by (inr p) (inl q) = let c = p.0 in inl (omega arith)
    by (inr p) (inr q) = inr (p.0 ∙ q.0, omega arith)

pub earlier_never_itself : (i : ℕ) (x : Performed) → Earlier i x i x → ⊥
earlier_never_itself i x (inl a) = omega arith
earlier_never_itself i x (inr a) = ⊎_elim (λ b. omega arith) (λ b. let c = b.1 in omega arith) a.1

earlier_compares : (i j : ℕ) (x y : Performed) → (i ≡ j) ⊎ (Earlier i x j y ⊎ Earlier j y i x)
earlier_compares i j x y = ⊎_elim
    (λ e. ⊎_elim
    (λ f. ⊎_elim inl (⊎_elim (λ l. inr (inl (inr (e, inr (f, l))))) (λ l. inr (inr (inr (sym e, inr (sym f, l)))))) (cases_order i j))
    (⊎_elim (λ l. inr (inl (inr (e, inl l)))) (λ l. inr (inr (inr (sym e, inl l))))) (cases_order x.thread y.thread))
    (⊎_elim (λ l. inr (inl (inl l))) (λ l. inr (inr (inl l)))) (cases_order x.time y.time)

pub order_is_total : OrderIsTotal
order_is_total tr = record {
  never_itself = λ i. earlier_never_itself i (at (performs tr) i);
  chains = λ i j k. earlier_chains i j k (at (performs tr) i) (at (performs tr) j) (at (performs tr) k);
  compares = λ i j. earlier_compares i j (at (performs tr) i) (at (performs tr) j);
}

-- What a thread performed first comes first in the order.
pub before_by_index : (ops : Ops) (clock : ℕ → ℕ) → ((t : ℕ) → Times ops t (clock t)) → (i j : ℕ) → i < length ops → j < length ops → i < j → (at ops i).thread ≡ (at ops j).thread → Before ops i j
before_by_index ops clock times i j wi wj l th =
    let r = (times (at ops j).thread).rise i (at ops i) (nth_here none ops i wi) th j (at ops j) (nth_here none ops j wj) l refl in
    ⊎_elim (λ e. inr (e, inr (th, l))) (⊎_elim (λ a. inl a) (λ a. absurd (omega arith))) (cases_order (at ops i).time (at ops j).time)
