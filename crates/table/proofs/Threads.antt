-- Some threads, taken together. Assumes nothing.
use Rattle.std.proofs.Common.{◌≡◌, ℕ, zero, suc, ◌+◌, ◌<◌, ◌≤◌, eqb, ◌&&◌, List, [], ◌∷◌, ◌++◌, map, length, get_or, set, replicate, take, min, Some, None, Option, sym, refl, ap, ◌∙◌, arith}
use Rattle.std.specs.List.{fold, flat_map, list_all, refill, sum_by}
use Rattle.std.proofs.lemmas.Bool.{eqb-true}
use Rattle.std.proofs.lemmas.Bool.Decides.{nat_tests}
use Rattle.std.proofs.lemmas.List.{length-set, get_or_default, take-replicate}
use Rattle.std.proofs.lemmas.Grind.{common_steps}
use Rattle.std.proofs.lemmas.List.Folds.{sum_by-zero}
use Rattle.std.proofs.lemmas.List.Recursion.{is_sum_by}
use Rattle.std.proofs.lemmas.List.Sums.{fold-append, sum_by-set}
use Rattle.semantics.specs.declared.row.Epoch.{Epoch}
use Rattle.semantics.specs.declared.row.Operation.{Operation}
use Rattle.semantics.specs.Asking.{open_in}
use Rattle.semantics.specs.Effect.{touch}
use Rattle.semantics.specs.Lists.{least_of}
use Rattle.semantics.specs.State.{Thread, State, idle, thread_of, busy, busy_threads}
use Rattle.thread.specs.Performing.{no_epoch, epoch_in, used_at, without_epoch, Ends}
use Rattle.thread.specs.Times.{thread_times}
use Rattle.thread.proofs.Lists.{found_from_position, filter_shorter}

pub open_by : (ws : List Thread) → open_in ws ≡ sum_by (λ w. length w.epochs) ws
open_by = is_sum_by open_in (λ w. length w.epochs) refl (λ _ _. refl)

busy_by : (ws : List Thread) → busy_threads ws ≡ sum_by (λ w. length w.pending + length w.epochs) ws
busy_by = is_sum_by busy_threads (λ w. length w.pending + length w.epochs) refl (λ _ _. refl)

-- Each thread is idle.
idle_is : (ws : List Thread) → list_all (λ w. eqb (length w.pending + length w.epochs) 0) ws ≡ eqb (busy_threads ws) 0
idle_is ws = sym (sum_by-zero (λ w. length w.pending + length w.epochs) ws) ∙ ap (λ n. eqb n 0) (sym (busy_by ws))

-- A watch is idle.
pub busy_is : (s : State) → (list_all (λ w. eqb (length w.pending + length w.epochs) 0) s.threads && eqb (length s.owed) 0) ≡ eqb (busy s) 0
busy_is s = ap (λ b. b && eqb (length s.owed) 0) (idle_is s.threads) ∙ by (busy_threads s.threads) (length s.owed)
  where
    by : (m n : ℕ) → (eqb m 0 && eqb n 0) ≡ eqb (m + n) 0
    by m n = grind (arith, nat_tests)

pub open_idle : (ws : List Thread) (n : ℕ) → ws ≡ replicate n idle → open_in ws ≡ 0
open_idle ws n e = ap open_in e ∙ by n
  where
    by : (n : ℕ) → open_in (replicate n idle) ≡ 0
    by zero = refl
    by (suc n) = let ih = by n in omega arith

-- The first n of four rows that are each a copy of one idle row.
pub idle_rows : {w : Thread} {four ws us : List Thread} (n : ℕ) → n ≤ 4 → w ≡ idle → four ≡ replicate 4 w → ws ≡ four → us ≡ take n ws → us ≡ replicate n idle
idle_rows n l i f e t = t ∙ ap (take n) (e ∙ f ∙ ap (replicate 4) i) ∙ take-replicate n 4 idle l

-- The row that was read is that of the state.
pub row_is : (s : State) (vs : List Thread) (t : ℕ) (d : Thread) → vs ≡ s.threads → t < length s.threads → get_or vs t d ≡ thread_of s t
row_is s vs t d e l = ap (λ ws. get_or ws t d) e ∙ get_or_default s.threads t d idle l

-- One thread in the place of another, as a write through the slice of all leaves it: as many threads, and what is open besides.
pub row_set : (ws vs : List Thread) (t : ℕ) (w d : Thread) → vs ≡ ws → t < length ws
    → (length (refill (length ws) ws (set vs t w)) ≡ length ws) × (open_in (refill (length ws) ws (set vs t w)) + length (get_or vs t d).epochs ≡ open_in ws + length w.epochs)
row_set ws vs t w d e l =
    let r : refill (length ws) ws (set vs t w) ≡ set ws t w = rw e (grind (arith, common_steps)) in
    let a = ap open_in r ∙ open_by (set ws t w) in
    let b = open_by ws in
    let s = sum_by-set (λ w. length w.epochs) ws t w d l in
    let k = ap (λ vs. length (get_or vs t d).epochs) e in
    (ap length r ∙ length-set ws t w, omega (arith, a, b, s, k))

earliest_is : (ws : List Thread) (m : ℕ) → fold (λ (a : ℕ) (w : Thread). fold min a (thread_times w)) m ws ≡ fold min m (flat_map thread_times ws)
earliest_is [] m = refl
earliest_is (w ∷ ws) m = earliest_is ws (fold min m (thread_times w)) ∙ sym (fold-append min m (thread_times w) (flat_map thread_times ws))

-- The least of the first clock, the times of all threads and some more.
pub least_is : (ws : List Thread) (os : List ℕ) (d : Thread) → 0 < length ws
    → fold min (fold (λ (a : ℕ) (w : Thread). fold min a (thread_times w)) (get_or ws 0 d).clock ws) os ≡ least_of (flat_map thread_times ws ++ os)
least_is [] os d l = absurd (omega arith)
least_is (w ∷ ws) os d l =
    let e : min w.clock w.clock ≡ w.clock = omega arith in
    let rest = map (λ e. e.from) w.epochs ++ flat_map thread_times ws in
    ap (λ m. fold min m os) (earliest_is (w ∷ ws) w.clock) ∙ ap (λ m. fold min (fold min m rest) os) e ∙ sym (fold-append min w.clock rest os)

-- An operation leaves as many epochs open.
pub length_used : (τ : ℕ) (o : Operation) (u : Option ℕ) (es : List Epoch) → length (used_at τ o u es) ≡ length es
length_used τ o None es = refl
length_used τ o (Some i) es = length-set es i (touch τ o (get_or es i no_epoch))

-- The epoch that ends.
pub ends_place : (w : Thread) (p τ i : ℕ) → Ends w p τ i → (epoch_in w i).place ≡ p
ends_place w p τ i e = eqb-true (epoch_in w i).place p ((found_from_position (λ e. eqb e.place p) w.epochs i e.row).passes no_epoch)

pub ends_fewer : (w : Thread) (p τ i : ℕ) → Ends w p τ i → length (without_epoch p τ w).epochs + 1 ≤ length w.epochs
ends_fewer w p τ i e = filter_shorter (λ e. eqb e.place p) w.epochs (epoch_in w i) ((found_from_position (λ e. eqb e.place p) w.epochs i e.row).here no_epoch)
