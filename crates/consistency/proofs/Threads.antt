-- All that holds of one thread and what it has performed, and how each call keeps it. Assumes nothing.
use Rattle.std.proofs.Common.{◌≡◌, ℕ, ◌<◌, ◌≤◌, Bool, true, not, eqb, ◌⊎◌, List, [], ◌∷◌, ◌++◌, length, get_or, set, Some, None, Option, sym, refl, ap, ◌∙◌, subst, ⊎_elim}
use Rattle.std.proofs.lemmas.List.{get_or-set_same, get_or-set_other}
use Rattle.std.proofs.lemmas.Bool.{cases_eq, eqb-true, eq-eqb, ne_eqb, cond-true, cond-false}
use Rattle.std.specs.List.{find, filter}
use Rattle.semantics.specs.declared.row.Operation.{Operation}
use Rattle.semantics.specs.declared.row.Epoch.{Epoch}
use Rattle.semantics.specs.declared.row.Ended.{Ended}
use Rattle.semantics.specs.Classes.{writes, puts}
use Rattle.semantics.specs.Effect.{answer_of, touch, performed}
use Rattle.semantics.specs.Laws.{Rule}
use Rattle.semantics.specs.Lists.{change}
use Rattle.semantics.specs.Puts.{put_clock, put_epochs, committed}
use Rattle.semantics.specs.State.{Thread, idle, epoch_at}
use Rattle.consistency.specs.Performed.{Performed}
use Rattle.consistency.proofs.Lists.{find_some, find_push_no, find_push_yes, find_filter, find_kept_out, find_change_same, find_change_other}
use Rattle.consistency.proofs.Outstanding.{Ops, done_as, Outstanding, Sources, Times, other_keeps_outstanding, commit_keeps_outstanding, perform_keeps_outstanding, other_keeps_sources, commit_keeps_sources, perform_keeps_sources, other_keeps_times, raise_keeps_times, perform_keeps_times}
use Rattle.consistency.proofs.Epochs.{Epochs, same_past_keeps_epochs, raise_keeps_epochs, pass_keeps_epochs, begin_keeps_epochs, touch_keeps_epochs, end_keeps_epochs}
use Rattle.consistency.proofs.Laws.{Touch, Performs}
use Rattle.consistency.proofs.Tests.{never}

-- What holds of the thread t, which is w: `begun` tells which places had a begin, `Past` which epochs have ended.
pub record ThreadHolds (R : Rule) (ops : Ops) (prog : List Operation) (begun : ℕ → Bool) (Past : Ended → Type 0) (t : ℕ) (w : Thread) : Type 0 where
  pub outstanding : Outstanding R ops t w.pending w.commits prog
  pub sources : Sources ops t w.pending
  pub times : Times ops t w.clock
  pub epochs : Epochs ops t w.clock (epoch_at w) Past
  pub started : (p : ℕ) (e : Epoch) → epoch_at w p ≡ Some e → begun p ≡ true

-- What holds of all threads holds after one is changed.
pub set_keeps_all : (F : ℕ → Thread → Type 0) (threads : List Thread) (t : ℕ) (w : Thread) → t < length threads → F t w → ((u : ℕ) → (u ≡ t → ⊥) → F u (get_or threads u idle)) → (u : ℕ) → F u (get_or (set threads t w) u idle)
set_keeps_all F threads t w l here there u = ⊎_elim
    (λ e. subst (λ z. F z (get_or (set threads t w) z idle)) (sym e) (subst (F t) (sym (get_or-set_same threads t w idle l)) here))
    (λ ne. subst (F u) (sym (get_or-set_other threads t u w idle ne)) (there u ne)) (cases_eq u t)

module _ {R : Rule} {ops : Ops} {prog : List Operation} {begun : ℕ → Bool} {Past : Ended → Type 0} {t : ℕ} {w : Thread} where
  -- The ended epochs of the thread stay the same, and begun places stay begun.
  pub frame_keeps_thread : {begun' : ℕ → Bool} {Past' : Ended → Type 0} → ((X : Ended) → Past' X → X.thread ≡ t → Past X) → ((X : Ended) → Past X → Past' X) → ((p : ℕ) → begun p ≡ true → begun' p ≡ true)
      → ThreadHolds R ops prog begun Past t w → ThreadHolds R ops prog begun' Past' t w
  frame_keeps_thread back on more k = record { outstanding = k.outstanding; sources = k.sources; times = k.times; epochs = same_past_keeps_epochs ops back on k.epochs; started = λ p e f. more p (k.started p e f) }

  -- Another thread performs.
  pub other_keeps_thread : (y : Performed) → (y.thread ≡ t → ⊥) → ThreadHolds R ops prog begun Past t w → ThreadHolds R (ops ++ (y ∷ [])) prog begun Past t w
  other_keeps_thread y ne k = record { outstanding = other_keeps_outstanding ops y ne k.outstanding; sources = other_keeps_sources ops y ne k.sources; times = other_keeps_times ops y ne k.times; epochs = pass_keeps_epochs ops y (λ e. absurd (ne e)) k.epochs; started = k.started }

  pub commit_keeps_thread : (o : Operation) → o.number ≡ w.commits → ThreadHolds R ops prog begun Past t w → ThreadHolds R ops (prog ++ (o ∷ [])) begun Past t (committed w o)
  commit_keeps_thread o e k = record { outstanding = commit_keeps_outstanding ops w.pending prog o e k.outstanding; sources = commit_keeps_sources ops w.pending o e k.outstanding k.sources; times = k.times; epochs = k.epochs; started = k.started }

  pub raise_keeps_thread : (τ : ℕ) → w.clock ≤ τ → ThreadHolds R ops prog begun Past t w → ThreadHolds R ops prog begun Past t (put_clock w τ)
  raise_keeps_thread τ l k = record { outstanding = k.outstanding; sources = k.sources; times = raise_keeps_times w.clock τ l k.times; epochs = raise_keeps_epochs ops τ l k.epochs; started = k.started }

  pub begin_keeps_thread : {begun' : ℕ → Bool} (e : Epoch) → w.clock ≤ e.from → epoch_at w e.place ≡ None → e.used ≡ e.from → e.copy ≡ e.start → begun' e.place ≡ true → ((p : ℕ) → begun p ≡ true → begun' p ≡ true)
      → ThreadHolds R ops prog begun Past t w → ThreadHolds R ops prog begun' Past t (put_clock (put_epochs w (w.epochs ++ (e ∷ []))) e.from)
  begin_keeps_thread {begun'} e l free used copy now more k =
      record {
        outstanding = k.outstanding;
        sources = k.sources;
        times = raise_keeps_times w.clock e.from l k.times;
        epochs = begin_keeps_epochs ops ep' e.place e.from e free new same refl refl used copy l k.epochs;
        started = λ p d f. ⊎_elim (λ i. rw i now) (λ ne. more p (k.started p d (sym (same p ne) ∙ f))) (cases_eq p e.place);
      }
    where
      ep' : ℕ → Option Epoch
      ep' p = find (λ x. eqb x.place p) (w.epochs ++ (e ∷ []))

      new : ep' e.place ≡ Some e
      new = find_push_yes (λ x. eqb x.place e.place) w.epochs e free (eq-eqb e.place e.place refl)

      same : (q : ℕ) → (q ≡ e.place → ⊥) → ep' q ≡ epoch_at w q
      same q ne = find_push_no (λ x. eqb x.place q) w.epochs e (ne_eqb e.place q (λ i. ne (sym i)))

  pub perform_keeps_thread : (o : Operation) (τ : ℕ) → w.clock ≤ τ → Performs R w o τ → ThreadHolds R ops prog begun Past t w
      → ThreadHolds R (ops ++ (done_as t τ (answer_of w o) o ∷ [])) prog begun Past t (performed w o τ)
  perform_keeps_thread o τ l f k = record {
    outstanding = perform_keeps_outstanding ops w.pending prog o τ (answer_of w o) f.lawful k.outstanding;
    sources = perform_keeps_sources ops w.pending o τ (answer_of w o) f.lawful f.forward k.outstanding k.sources;
    times = perform_keeps_times ops y w.clock l k.times;
    epochs = ⊎_elim
        (λ p. subst (λ es. Epochs (ops ++ (y ∷ [])) t τ (λ q. find (λ e. eqb e.place q) es) Past) (sym p.epochs) (raise_keeps_epochs _ τ l (pass_keeps_epochs ops y (λ _. (p.stores, p.reads)) k.epochs)))
        (λ p. subst (λ es. Epochs (ops ++ (y ∷ [])) t τ (λ q. find (λ e. eqb e.place q) es) Past) (sym p.epochs) (touching p)) f.epoch;
    started = ⊎_elim
        (λ p. subst (λ es. (q : ℕ) (e : Epoch) → find (λ e. eqb e.place q) es ≡ Some e → begun q ≡ true) (sym p.epochs) k.started)
        (λ p. subst (λ es. (q : ℕ) (e : Epoch) → find (λ e. eqb e.place q) es ≡ Some e → begun q ≡ true) (sym p.epochs)
        (λ q e g. ⊎_elim (λ i. rw i (k.started o.place p.epoch p.found)) (λ ne. k.started q e (sym (same q ne) ∙ g)) (cases_eq q o.place))) f.epoch;
  }
    where
      y : Performed
      y = done_as t τ (answer_of w o) o

      ep' : ℕ → Option Epoch
      ep' q = find (λ e. eqb e.place q) (change (λ e. eqb e.place o.place) (touch τ o) w.epochs)

      same : (q : ℕ) → (q ≡ o.place → ⊥) → ep' q ≡ epoch_at w q
      same q ne = find_change_other (λ e. eqb e.place q) (λ e. eqb e.place o.place) (touch τ o) w.epochs
          (λ x h. let i = eqb-true x.place o.place h in let n = ne_eqb x.place q (λ j. ne (sym j ∙ i)) in (n, n))

      touching : Touch w o τ → Epochs (ops ++ (y ∷ [])) t τ ep' Past
      touching p =
          let e = p.epoch in
          let pl : eqb e.place o.place ≡ true = (find_some (λ x. eqb x.place o.place) w.epochs e p.found).1 in
          touch_keeps_epochs ops ep' y e (touch τ o e) p.found
          (find_change_same (λ e. eqb e.place o.place) (touch τ o) w.epochs e p.found pl)
          same refl refl refl refl refl refl l
          (λ c. (p.stores c, cond-true (writes o.class) (puts o) e.copy c))
          (λ c. cond-false (writes o.class) (puts o) e.copy c)
          (λ c. p.reads c) k.epochs

  pub end_keeps_thread : {Past' : Ended → Type 0} (p τ : ℕ) (e : Epoch) (row : Ended) → epoch_at w p ≡ Some e
      → ((X : Ended) → Past' X → Past X ⊎ (X ≡ row)) → ((X : Ended) → Past X → Past' X) → Past' row
      → row.thread ≡ t → row.place ≡ e.place → row.from ≡ e.from → row.until ≡ τ → row.start ≡ e.start → row.last ≡ e.copy → row.writes ≡ e.writes
      → e.used < τ → w.clock ≤ τ → ThreadHolds R ops prog begun Past t w
      → ThreadHolds R ops prog begun Past' t (put_clock (put_epochs w (filter (λ x. not (eqb x.place e.place)) w.epochs)) τ)
  end_keeps_thread {Past'} p τ e row old back on here rt rp rf ru rs rv rw' u l k =
      record {
        outstanding = k.outstanding;
        sources = k.sources;
        times = raise_keeps_times w.clock τ l k.times;
        epochs = end_keeps_epochs ops ep' Past' p τ e row old gone same back on here rt rp rf ru rs rv rw' u l k.epochs;
        started = λ q d f. ⊎_elim (λ i. let j : ep' p ≡ Some d = subst (λ z. ep' z ≡ Some d) i f in absurd (never (sym j ∙ gone))) (λ ne. k.started q d (sym (same q ne) ∙ f)) (cases_eq q p);
      }
    where
      pl : e.place ≡ p
      pl = k.epochs.placed p e old

      ep' : ℕ → Option Epoch
      ep' q = find (λ x. eqb x.place q) (filter (λ x. not (eqb x.place e.place)) w.epochs)

      gone : ep' p ≡ None
      gone = find_kept_out (λ x. eqb x.place p) (λ x. not (eqb x.place e.place)) w.epochs
          (λ x h. ap not (eq-eqb x.place e.place (eqb-true x.place p h ∙ sym pl)))

      same : (q : ℕ) → (q ≡ p → ⊥) → ep' q ≡ epoch_at w q
      same q ne = find_filter (λ x. eqb x.place q) (λ x. not (eqb x.place e.place)) w.epochs
          (λ x h. ap not (ne_eqb x.place e.place (λ i. ne (sym (eqb-true x.place q h) ∙ (i ∙ pl)))))
