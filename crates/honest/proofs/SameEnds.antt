-- Two lists of calls with the same steps of each thread end the same epochs. Assumes nothing.
use Rattle.std.proofs.Common.{◌≡◌, ℕ, cond, eqb, ◌⊎◌, List, [], ◌∷◌, ◌++◌, Some, None, Option, sym, refl, ap, ◌∙◌, subst, inl, inr, arith}
use Rattle.std.proofs.lemmas.Bool.{eqb-true, eqb-false, eq-eqb, ne_eqb, cases_eq}
use Rattle.std.specs.List.{filter}
use Rattle.std.proofs.lemmas.List.Elements.{filter-append}
use Rattle.semantics.specs.declared.row.Ended.{Ended}
use Rattle.semantics.specs.Calls.{Call, preset, commit, perform, advance, begin, end, report, drop, settle, close}
use Rattle.honest.specs.Machine.{put}
use Rattle.honest.specs.Record.{own_steps}
use Rattle.honest.proofs.Holds.{put_at, put_other}
use Rattle.honest.proofs.Ends.{EpochStart, new_start, ended_epoch, ended_epochs, start_at, except_at, ends_in}
use Rattle.honest.proofs.Lists.{by_test}
use Rattle.honest.proofs.SameElements.{Pick, here, there, Same, none, more}

abbrev of_thread : ℕ → List Ended → List Ended
of_thread t es = filter (λ e. eqb e.thread t) es

-- The epochs of one thread that end in its own calls.
abbrev rows : ℕ → List EpochStart → List Call → List Ended
rows t l [] = []
rows t l (preset p v ∷ cs) = rows t l cs
rows t l (commit u c p v ∷ cs) = rows t l cs
rows t l (perform u k τ ∷ cs) = rows t l cs
rows t l (advance u τ ∷ cs) = rows t l cs
rows t l (begin u k p v τ ∷ cs) = rows t (l ++ (new_start k p v τ ∷ [])) cs
rows t l (end u p v τ ∷ cs) = ended_epochs t (start_at l p) v τ ++ rows t (except_at l p) cs
rows t l (report k ∷ cs) = rows t l cs
rows t l (drop k ∷ cs) = rows t l cs
rows t l (settle ∷ cs) = rows t l cs
rows t l (close ∷ cs) = rows t l cs

own_ended : (t u : ℕ) (x : Option EpochStart) (v τ : ℕ) → u ≡ t → of_thread t (ended_epochs u x v τ) ≡ ended_epochs t x v τ
own_ended t u None v τ e = refl
own_ended t u (Some l) v τ e = let b = eq-eqb u t e in ap (λ z. cond z (ended_epoch u l v τ ∷ []) []) b ∙ ap (λ z. ended_epoch z l v τ ∷ []) e

other_ended : (t u : ℕ) (x : Option EpochStart) (v τ : ℕ) → (u ≡ t → ⊥) → of_thread t (ended_epochs u x v τ) ≡ []
other_ended t u None v τ n = refl
other_ended t u (Some l) v τ n = ap (λ z. cond z (ended_epoch u l v τ ∷ []) []) (ne_eqb u t n)

own_rows : (t : ℕ) (o : ℕ → List EpochStart) (cs : List Call) → of_thread t (ends_in o cs) ≡ rows t (o t) (own_steps t cs)
own_rows t o [] = refl
own_rows t o (preset p v ∷ cs) = own_rows t o cs
own_rows t o (commit u c p v ∷ cs) = let r = own_rows t o cs in
    by_test (λ b. of_thread t (ends_in o cs) ≡ rows t (o t) (cond b (commit u c p v ∷ own_steps t cs) (own_steps t cs))) (eqb u t) (λ _. r) (λ _. r)
own_rows t o (perform u k τ ∷ cs) = let r = own_rows t o cs in
    by_test (λ b. of_thread t (ends_in o cs) ≡ rows t (o t) (cond b (perform u k τ ∷ own_steps t cs) (own_steps t cs))) (eqb u t) (λ _. r) (λ _. r)
own_rows t o (advance u τ ∷ cs) = own_rows t o cs
own_rows t o (begin u k p v τ ∷ cs) =
    let o' : ℕ → List EpochStart = put o u (o u ++ (new_start k p v τ ∷ [])) in
    let r = own_rows t o' cs in
    by_test (λ b. of_thread t (ends_in o' cs) ≡ rows t (o t) (cond b (begin u k p v τ ∷ own_steps t cs) (own_steps t cs))) (eqb u t)
    (λ b. let e = eqb-true u t b in r ∙ ap (λ z. rows t z (own_steps t cs)) (put_at o u t (o u ++ (new_start k p v τ ∷ [])) e ∙ ap (λ z. o z ++ (new_start k p v τ ∷ [])) e))
    (λ b. r ∙ ap (λ z. rows t z (own_steps t cs)) (put_other o u t (o u ++ (new_start k p v τ ∷ [])) (λ e. eqb-false u t b (sym e))))
own_rows t o (end u p v τ ∷ cs) =
    let o' : ℕ → List EpochStart = put o u (except_at (o u) p) in
    let r = own_rows t o' cs in
    let a = filter-append (λ e. eqb e.thread t) (ended_epochs u (start_at (o u) p) v τ) (ends_in o' cs) in
    by_test (λ b. of_thread t (ended_epochs u (start_at (o u) p) v τ ++ ends_in o' cs) ≡ rows t (o t) (cond b (end u p v τ ∷ own_steps t cs) (own_steps t cs))) (eqb u t)
    (λ b. let e = eqb-true u t b in
    a ∙ ap (λ z. z ++ of_thread t (ends_in o' cs)) (own_ended t u (start_at (o u) p) v τ e ∙ ap (λ z. ended_epochs t (start_at (o z) p) v τ) e)
    ∙ ap (λ z. ended_epochs t (start_at (o t) p) v τ ++ z) (r ∙ ap (λ z. rows t z (own_steps t cs)) (put_at o u t (except_at (o u) p) e ∙ ap (λ z. except_at (o z) p) e)))
    (λ b. let n = eqb-false u t b in
    a ∙ ap (λ z. z ++ of_thread t (ends_in o' cs)) (other_ended t u (start_at (o u) p) v τ n)
    ∙ r ∙ ap (λ z. rows t z (own_steps t cs)) (put_other o u t (except_at (o u) p) (λ e. n (sym e))))
own_rows t o (report k ∷ cs) = own_rows t o cs
own_rows t o (drop k ∷ cs) = own_rows t o cs
own_rows t o (settle ∷ cs) = own_rows t o cs
own_rows t o (close ∷ cs) = own_rows t o cs

-- Lists with the same ended epochs of each thread have the same ended epochs.
record Pulled (t : ℕ) (a : Ended) (bs xs : List Ended) : Type 0 where
  rest : List Ended
  out : Pick a bs rest
  own : of_thread t rest ≡ xs
  others : (u : ℕ) → (u ≡ t → ⊥) → of_thread u rest ≡ of_thread u bs

nil≢cons : {A : Type 0} {x : A} {xs : List A} → ◌≡◌ {A = List A} [] (x ∷ xs) → ⊥
nil≢cons e = let z : ◌≡◌ {A = ℕ} 0 1 = cc in omega arith

pull : (t : ℕ) (a : Ended) (bs xs : List Ended) → of_thread t bs ≡ a ∷ xs → Pulled t a bs xs
pull t a [] xs e = absurd (nil≢cons e)
pull t a (b ∷ bs) xs e = go (cases_eq b.thread t) (pull t a bs xs)
  where
    go : (b.thread ≡ t) ⊎ (b.thread ≡ t → ⊥) → (of_thread t bs ≡ a ∷ xs → Pulled t a bs xs) → Pulled t a (b ∷ bs) xs
    go (inl is) r =
        let i = eq-eqb b.thread t is in
        let e' : b ∷ of_thread t bs ≡ a ∷ xs = sym (ap (λ z. cond z (b ∷ of_thread t bs) (of_thread t bs)) i) ∙ e in
        let ba : b ≡ a = cc in
        let own' : of_thread t bs ≡ xs = cc in
        record {
          rest = bs;
          out = subst (λ z. Pick a (z ∷ bs) bs) (sym ba) here;
          own = own';
          others = λ u n. sym (ap (λ z. cond z (b ∷ of_thread u bs) (of_thread u bs)) (ne_eqb b.thread u (λ x. n (sym x ∙ is))));
        }
    go (inr n) r =
        let i = ne_eqb b.thread t n in
        let p = r (sym (ap (λ z. cond z (b ∷ of_thread t bs) (of_thread t bs)) i) ∙ e) in
        record {
          rest = b ∷ p.rest;
          out = there p.out;
          own = ap (λ z. cond z (b ∷ of_thread t p.rest) (of_thread t p.rest)) i ∙ p.own;
          others = λ u m. ap (λ z. cond (eqb b.thread u) (b ∷ z) z) (p.others u m);
        }

same_by_thread : (xs bs : List Ended) → ((t : ℕ) → of_thread t xs ≡ of_thread t bs) → Same xs bs
same_by_thread [] [] h = none
same_by_thread [] (b ∷ bs) h = absurd (nil≢cons (h b.thread ∙ ap (λ z. cond z (b ∷ of_thread b.thread bs) (of_thread b.thread bs)) (eq-eqb b.thread b.thread refl)))
same_by_thread (x ∷ xs) bs h =
    let i = eq-eqb x.thread x.thread refl in
    let p = pull x.thread x bs (of_thread x.thread xs) (sym (h x.thread) ∙ ap (λ z. cond z (x ∷ of_thread x.thread xs) (of_thread x.thread xs)) i) in
    more p.out (same_by_thread xs p.rest (go p))
  where
    go : (p : Pulled x.thread x bs (of_thread x.thread xs)) → (t : ℕ) → of_thread t xs ≡ of_thread t p.rest
    go p t = at (cases_eq t x.thread)
      where
        at : (t ≡ x.thread) ⊎ (t ≡ x.thread → ⊥) → of_thread t xs ≡ of_thread t p.rest
        at (inl e) = ap (λ z. of_thread z xs) e ∙ sym p.own ∙ ap (λ z. of_thread z p.rest) (sym e)
        at (inr n) = sym (ap (λ z. cond z (x ∷ of_thread t xs) (of_thread t xs)) (ne_eqb x.thread t (λ e. n (sym e)))) ∙ h t ∙ sym (p.others t n)

pub same_ends : (o : ℕ → List EpochStart) (cs ds : List Call) → ((t : ℕ) → own_steps t cs ≡ own_steps t ds) → Same (ends_in o cs) (ends_in o ds)
same_ends o cs ds h = same_by_thread (ends_in o cs) (ends_in o ds) (λ t. own_rows t o cs ∙ ap (rows t (o t)) (h t) ∙ sym (own_rows t o ds))
