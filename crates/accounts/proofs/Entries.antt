-- What a begin, an end, a report and a drop write into the books. Assumes nothing.
use Rattle.std.proofs.Common.{◌≡◌, ℕ, suc, ◌+◌, ◌<◌, ◌≤◌, Bool, true, false, not, ◌&&◌, ◌||◌, eqb, ltb, ◌⊎◌, List, [], ◌∷◌, ◌++◌, length, Some, sym, refl, ap, ◌∙◌, subst, ap₂, inl, inr, arith}
use Rattle.std.proofs.lemmas.Bool.{eqb-true, ltb-false, lt-ltb, le-ltb, cases_eq, cases_order, eq-eqb, ne_eqb, leb-false}
use Rattle.std.proofs.lemmas.List.{length_push}
use Rattle.std.specs.List.{filter}
use Rattle.semantics.specs.declared.row.Epoch.{Epoch}
use Rattle.semantics.specs.declared.row.Ended.{Ended}
use Rattle.semantics.specs.declared.verdict.Conviction.{Conviction}
use Rattle.semantics.specs.declared.verdict.Verdict.TheVariants.{Guilty}
use Rattle.semantics.specs.Calls.{begin, end}
use Rattle.semantics.specs.Effect.{effect, ended}
use Rattle.semantics.specs.Judging.{insert}
use Rattle.semantics.specs.Laws.{Precedes}
use Rattle.semantics.specs.Puts.{put_verdict, without}
use Rattle.semantics.specs.State.{State, thread_of, epoch_at, owed_as}
use Rattle.accounts.specs.Accounts.{Account, Open, Owed, Waiting, Judged, Dropped, Entry, Log, is, same, stand, finish, finished, open_at, owed_under, sooner, alter, with_epochs}
use Rattle.accounts.specs.Deeds.{opened}
use Rattle.accounts.specs.Lists.{count, one_if, All}
use Rattle.accounts.specs.Rows.{open_row}
use Rattle.accounts.proofs.Books.{Books, any, ended_any, threads_by, once, early_kept, guilty_runs}
use Rattle.accounts.proofs.Counting.{one_le, eqb_refl, count_like, count_push, none_count}
use Rattle.accounts.proofs.Moving.{tally, tallies, length_alter, stay, leave, join, within}
use Rattle.accounts.proofs.NeverFalls.{Kept}
use Rattle.accounts.proofs.Queues.{find_none, find_passes, find_one, find_in, count_kept, count_insert, all_insert, in_order_insert}
use Rattle.accounts.proofs.Safe.{LowerIn}
use Rattle.accounts.proofs.Steps.{Passes, checked, none_of}
use Rattle.accounts.proofs.Ways.{after_report, after_drop}

-- a begin
module _ (B : Precedes) (s : State) (l : Log) (b : Books s l) (t k p v τ : ℕ) (f : Passes s (begin t k p v τ)) where
  abbrev after_begin : State
  after_begin = (effect B s (begin t k p v τ)).state

  abbrev x : Entry
  x = record { account = Open; row = opened t k p v τ }

  pub more : (A : Account → Bool) (q : Ended → Bool) → tallies A q (l.epochs ++ (x ∷ [])) ≡ tallies A q l.epochs + one_if (A Open && q x.row)
  more A q = count_push (λ e. A e.account && q e.row) l.epochs x

  pub same_tally : (A : Account → Bool) (q : Ended → Bool) → A Open ≡ false → tallies A q (l.epochs ++ (x ∷ [])) ≡ tallies A q l.epochs
  same_tally A q h = let a = more A q in let c : one_if (A Open && q x.row) ≡ 0 = ap (λ y. one_if (y && q x.row)) h in omega arith

  t_in : t < length s.threads
  t_in = leb-false (length s.threads) t (checked s (begin t k p v τ) f).0

  opens_after : (q : Ended → Bool) (u : ℕ) → count (λ e. q (open_row u e)) (thread_of after_begin u).epochs ≡ tally Open (λ r. eqb r.thread u && q r) (l.epochs ++ (x ∷ []))
  opens_after q = threads_by (λ u w. count (λ e. q (open_row u e)) w.epochs ≡ tally Open (λ r. eqb r.thread u && q r) (l.epochs ++ (x ∷ []))) s.threads t _ t_in
      (let a = more (same Open) (λ r. eqb r.thread t && q r) in
      let c : one_if (eqb t t && q x.row) ≡ one_if (q x.row) = ap (λ y. one_if (y && q x.row)) (eqb_refl t) in
      let d = b.opens t q in
      count_push (λ e. q (open_row t e)) (thread_of s t).epochs _ ∙ omega arith)
      (λ u n. let a = more (same Open) (λ r. eqb r.thread u && q r) in
      let c : one_if (eqb t u && q x.row) ≡ 0 = ap (λ y. one_if (y && q x.row)) (ne_eqb t u (λ h. n (sym h))) in
      let d = b.opens u q in
      omega arith)

  places_after : (q u : ℕ) → count (λ e. eqb e.place q) (thread_of after_begin u).epochs ≤ 1
  places_after q = threads_by (λ u w. count (λ e. eqb e.place q) w.epochs ≤ 1) s.threads t _ t_in
      (subst (λ y. y ≤ 1) (sym (count_push (λ e. eqb e.place q) (thread_of s t).epochs _)) (by (cases_eq p q)))
      (λ u n. b.places u q)
    where
      none_yet : count (λ e. eqb e.place p) (thread_of s t).epochs ≡ 0
      none_yet = find_none (λ e. eqb e.place p) (thread_of s t).epochs (none_of _ (checked s (begin t k p v τ) f).1.1.1.1.0)

      by : (p ≡ q) ⊎ (p ≡ q → ⊥) → count (λ e. eqb e.place q) (thread_of s t).epochs + one_if (eqb p q) ≤ 1
      by (inl h) = let a : count (λ e. eqb e.place q) (thread_of s t).epochs ≡ 0 = subst (λ y. count (λ e. eqb e.place y) (thread_of s t).epochs ≡ 0) h none_yet in let c = one_le (eqb p q) in omega arith
      by (inr h) = let a = b.places t q in let c : one_if (eqb p q) ≡ 0 = ap one_if (ne_eqb p q h) in omega arith

  pub begun : Kept s after_begin → Books after_begin (with_epochs l (l.epochs ++ (x ∷ [])))
  begun kept = record {
    opens = λ u q. opens_after q u;
    owed = λ q. b.owed q ∙ sym (same_tally (same Owed) q refl);
    waiting = λ q. b.waiting q ∙ sym (same_tally (same Waiting) q refl);
    judgings = λ q. b.judgings q ∙ sym (same_tally (same Judged) q refl);
    judged = b.judged ∙ sym (same_tally (same Judged) any refl);
    dropped = b.dropped ∙ sym (same_tally (same Dropped) any refl);
    begins = ap (λ n. n + 1) b.begins ∙ sym (length_push l.epochs x);
    numbers = λ n. same_tally ended_any (λ r. eqb r.number n) refl ∙ b.numbers n;
    places = λ u q. places_after q u;
    queue = b.queue;
    order = b.order;
    ahead = b.ahead;
    early = λ r. early_kept s after_begin l.judgings kept (b.early r);
  }

-- a taken end
module _ (B : Precedes) (s : State) (l : Log) (b : Books s l) (t p v τ : ℕ) (f : Passes s (end t p v τ)) (e : Epoch) (found : epoch_at (thread_of s t) p ≡ Some e) where
  abbrev after_end : State
  after_end = ended s t e v τ

  abbrev its : Ended → Bool
  its r = eqb r.thread t && eqb r.place p

  abbrev ended_as : Ended → Ended
  ended_as = finish s.ends v τ

  abbrev new_epochs : List Entry
  new_epochs = alter (open_at t p) (finished s.ends v τ) l.epochs

  t_here : t < length s.threads
  t_here = leb-false (length s.threads) t (checked s (end t p v τ) f).0

  at_p : e.place ≡ p
  at_p = eqb-true e.place p (find_passes (λ e. eqb e.place p) (thread_of s t).epochs e found)

  -- what is said of the one open epoch of the thread and place
  pub its_one : (q : Ended → Bool) → tally Open (λ r. its r && q r) l.epochs ≡ one_if (q (open_row t e))
  its_one q =
      count_like _ _ l.epochs (λ y. by (is Open y) (eqb y.row.thread t) (eqb y.row.place p) (q y.row))
      ∙ sym (b.opens t (λ r. eqb r.place p && q r))
      ∙ find_one (λ e. eqb e.place p) (λ e. q (open_row t e)) (thread_of s t).epochs e found (b.places t p)
    where
      by : (x y z w : Bool) → (x && ((y && z) && w)) ≡ (x && (y && (z && w)))
      by x true z w = refl
      by x false z w = refl

  opens_end : (q : Ended → Bool) (u : ℕ) → count (λ e. q (open_row u e)) (thread_of after_end u).epochs ≡ tally Open (λ r. eqb r.thread u && q r) new_epochs
  opens_end q = threads_by (λ u w. count (λ e. q (open_row u e)) w.epochs ≡ tally Open (λ r. eqb r.thread u && q r) new_epochs) s.threads t _ t_here own other
    where
      left : (u : ℕ) → tally Open (λ r. eqb r.thread u && q r) new_epochs + tally Open (λ r. its r && (eqb r.thread u && q r)) l.epochs ≡ tally Open (λ r. eqb r.thread u && q r) l.epochs
      left u = leave Open Owed its (open_at t p) (finished s.ends v τ) ended_as (λ _. refl) (λ _. refl) (λ _. refl) (same Open) (λ r. eqb r.thread u && q r) l.epochs refl refl

      own : count (λ e. q (open_row t e)) (filter (λ x. not (eqb x.place e.place)) (thread_of s t).epochs) ≡ tally Open (λ r. eqb r.thread t && q r) new_epochs
      own =
          let a = count_kept (λ x. eqb x.place e.place) (λ x. q (open_row t x)) (thread_of s t).epochs in
          let c : count (λ x. eqb x.place e.place && q (open_row t x)) (thread_of s t).epochs ≡ one_if (q (open_row t e)) =
          ap (λ y. count (λ x. eqb x.place y && q (open_row t x)) (thread_of s t).epochs) at_p
          ∙ find_one (λ e. eqb e.place p) (λ e. q (open_row t e)) (thread_of s t).epochs e found (b.places t p) in
          let d = left t in
          let g : tally Open (λ r. its r && (eqb r.thread t && q r)) l.epochs ≡ one_if (q (open_row t e)) =
          its_one (λ r. eqb r.thread t && q r) ∙ ap (λ y. one_if (y && q (open_row t e))) (eqb_refl t) in
          let h = b.opens t q in
          omega arith

      other : (u : ℕ) → (u ≡ t → ⊥) → count (λ e. q (open_row u e)) (thread_of s u).epochs ≡ tally Open (λ r. eqb r.thread u && q r) new_epochs
      other u n =
          let d = left u in
          let g : tally Open (λ r. its r && (eqb r.thread u && q r)) l.epochs ≡ 0 =
          its_one (λ r. eqb r.thread u && q r) ∙ ap (λ y. one_if (y && q (open_row t e))) (ne_eqb t u (λ h. n (sym h))) in
          let h = b.opens u q in
          omega arith

  pub join_owed : (A : Account → Bool) (q : Ended → Bool) → A Open ≡ false → A Owed ≡ true → tallies A q new_epochs ≡ tallies A q l.epochs + one_if (q (ended_as (open_row t e)))
  join_owed A q x y =
      let a = join Open Owed its (open_at t p) (finished s.ends v τ) ended_as (λ _. refl) (λ _. refl) (λ _. refl) A q l.epochs x y in
      let c = its_one (λ r. q (ended_as r)) in
      omega arith

  pub stay_end : (A : Account → Bool) (q : Ended → Bool) → A Open ≡ false → A Owed ≡ false → tallies A q new_epochs ≡ tallies A q l.epochs
  stay_end A q x y = stay Open Owed its (open_at t p) (finished s.ends v τ) ended_as (λ _. refl) (λ _. refl) (λ _. refl) A q l.epochs x y

  one_more : (n m : ℕ) → one_if (ltb n m) + one_if (eqb m n) ≡ one_if (ltb n (m + 1))
  one_more n m = by (cases_order n m)
    where
      by : (n ≡ m) ⊎ ((n < m) ⊎ (m < n)) → one_if (ltb n m) + one_if (eqb m n) ≡ one_if (ltb n (m + 1))
      by (inl h) = ap₂ (λ x y. one_if x + one_if y) (le-ltb n m (omega arith)) (eq-eqb m n (sym h)) ∙ sym (ap one_if (lt-ltb n (m + 1) (omega arith)))
      by (inr (inl h)) = ap₂ (λ x y. one_if x + one_if y) (lt-ltb n m h) (ne_eqb m n (λ k. omega arith)) ∙ sym (ap one_if (lt-ltb n (m + 1) (omega arith)))
      by (inr (inr h)) = ap₂ (λ x y. one_if x + one_if y) (le-ltb n m (omega arith)) (ne_eqb m n (λ k. omega arith)) ∙ sym (ap one_if (le-ltb n (m + 1) (omega arith)))

  pub finished_books : Kept s after_end → Books after_end (with_epochs l new_epochs)
  finished_books kept = record {
    opens = λ u q. opens_end q u;
    owed = λ q. count_push q s.owed _ ∙ ap (λ n. n + one_if (q (ended_as (open_row t e)))) (b.owed q) ∙ sym (join_owed (same Owed) q refl refl);
    waiting = λ q. b.waiting q ∙ sym (stay_end (same Waiting) q refl refl);
    judgings = λ q. b.judgings q ∙ sym (stay_end (same Judged) q refl refl);
    judged = b.judged ∙ sym (stay_end (same Judged) any refl refl);
    dropped = b.dropped ∙ sym (stay_end (same Dropped) any refl refl);
    begins = b.begins ∙ sym (length_alter (open_at t p) (finished s.ends v τ) l.epochs);
    numbers = λ n. join_owed ended_any (λ r. eqb r.number n) refl refl ∙ ap (λ x. x + one_if (eqb s.ends n)) (b.numbers n) ∙ one_more n s.ends;
    places = λ u q. threads_by (λ u w. count (λ e. eqb e.place q) w.epochs ≤ 1) s.threads t _ t_here
        (let a = count_kept (λ x. eqb x.place e.place) (λ x. eqb x.place q) (thread_of s t).epochs in let c = b.places t q in omega arith) (λ u _. b.places u q) u;
    queue = b.queue;
    order = b.order;
    ahead = b.ahead;
    early = λ r. early_kept s after_end l.judgings kept (b.early r);
  }

-- a notice that is owed goes to another account
module _ (s : State) (l : Log) (b : Books s l) (n : ℕ) (e : Ended) (found : owed_as s n ≡ Some e) (a : Account) where
  abbrev gone : List Entry
  gone = alter (owed_under n) (stand a) l.epochs

  abbrev numbered : Ended → Bool
  numbered r = eqb r.number n

  abbrev rest : List Ended
  rest = without n s.owed

  owed_one : (q : Ended → Bool) → count (λ r. numbered r && q r) s.owed ≡ one_if (q e)
  owed_one q = find_one numbered q s.owed e found (let h = once s l b n in omega arith)

  pub tally_one : (q : Ended → Bool) → tally Owed (λ r. numbered r && q r) l.epochs ≡ one_if (q e)
  tally_one q = sym (b.owed (λ r. numbered r && q r)) ∙ owed_one q

  pub none_waits : count numbered s.waiting ≡ 0
  none_waits =
      let h = once s l b n in
      let k = owed_one (λ _. true) in
      let j : count (λ r. numbered r && true) s.owed ≡ count numbered s.owed = count_like _ _ s.owed (λ r. by (numbered r)) in
      omega arith
    where
      by : (x : Bool) → (x && true) ≡ x
      by true = refl
      by false = refl

  pub owed_left : same Owed a ≡ false → (q : Ended → Bool) → count q rest ≡ tally Owed q gone
  owed_left h q =
      let x = count_kept numbered q s.owed in
      let y = leave Owed a numbered (owed_under n) (stand a) (λ r. r) (λ _. refl) (λ _. refl) (λ _. refl) (same Owed) q l.epochs refl h in
      let z = b.owed q in
      let u = b.owed (λ r. numbered r && q r) in
      omega arith

  pub joined : (A : Account → Bool) (q : Ended → Bool) → A Owed ≡ false → A a ≡ true → tallies A q gone ≡ tallies A q l.epochs + one_if (q e)
  joined A q x y =
      let j = join Owed a numbered (owed_under n) (stand a) (λ r. r) (λ _. refl) (λ _. refl) (λ _. refl) A q l.epochs x y in
      let k = tally_one q in omega arith

  pub stayed : (A : Account → Bool) (q : Ended → Bool) → A Owed ≡ A a → tallies A q gone ≡ tallies A q l.epochs
  stayed A q h = by (A Owed) refl
    where
      by : (x : Bool) → A Owed ≡ x → tallies A q gone ≡ tallies A q l.epochs
      by true k = within Owed a numbered (owed_under n) (stand a) (λ r. r) (λ _. refl) (λ _. refl) (λ _. refl) A q l.epochs k (sym h ∙ k) (λ _. refl)
      by false k = stay Owed a numbered (owed_under n) (stand a) (λ r. r) (λ _. refl) (λ _. refl) (λ _. refl) A q l.epochs k (sym h ∙ k)

  pub gone_long : length gone ≡ length l.epochs
  gone_long = length_alter (owed_under n) (stand a) l.epochs

-- a taken report
module _ (s : State) (l : Log) (b : Books s l) (n : ℕ) (e : Ended) (found : owed_as s n ≡ Some e) where
  is_n : e.number ≡ n
  is_n = eqb-true e.number n (find_passes (λ e. eqb e.number n) s.owed e found)

  -- it begins after whatever was judged
  later : (j : Ended) → LowerIn (suc j.from) s → sooner j e ≡ true
  later j h = let k = ltb-false e.from (suc j.from) (find_in (λ x. ltb x.from (suc j.from)) (λ e. eqb e.number n) s.owed e found h.owed) in
      ap (λ x. x || (eqb j.from e.from && ltb j.number e.number)) (lt-ltb j.from e.from (omega arith))

  still_ahead : (js : List Ended) → All (λ j. All (λ w. sooner j w ≡ true) s.waiting) js → All (λ j. LowerIn (suc j.from) s) js → All (λ j. All (λ w. sooner j w ≡ true) (insert e s.waiting)) js
  still_ahead [] h k = tt
  still_ahead (j ∷ js) h k = (all_insert (λ w. sooner j w ≡ true) e s.waiting (later j k.0) h.0, still_ahead js h.1 k.1)

  pub reported : Kept s (after_report s n e) → Books (after_report s n e) (with_epochs l (alter (owed_under n) (stand Waiting) l.epochs))
  reported kept = record {
    opens = λ t q. b.opens t q ∙ sym (stayed s l b n e found Waiting (same Open) (λ r. eqb r.thread t && q r) refl);
    owed = owed_left s l b n e found Waiting refl;
    waiting = λ q. count_insert q e s.waiting ∙ (let x = b.waiting q in let y = joined s l b n e found Waiting (same Waiting) q refl refl in omega arith);
    judgings = λ q. b.judgings q ∙ sym (stayed s l b n e found Waiting (same Judged) q refl);
    judged = b.judged ∙ sym (stayed s l b n e found Waiting (same Judged) any refl);
    dropped = b.dropped ∙ sym (stayed s l b n e found Waiting (same Dropped) any refl);
    begins = b.begins ∙ sym (gone_long s l b n e found Waiting);
    numbers = λ m. stayed s l b n e found Waiting ended_any (λ r. eqb r.number m) refl ∙ b.numbers m;
    places = b.places;
    queue = in_order_insert e s.waiting (none_count (λ x. eqb x.number e.number) s.waiting (subst (λ m. count (λ x. eqb x.number m) s.waiting ≡ 0) (sym is_n) (none_waits s l b n e found Waiting))) b.queue;
    order = b.order;
    ahead = λ r. still_ahead l.judgings (b.ahead r) (b.early r);
    early = λ r. early_kept s (after_report s n e) l.judgings kept (b.early r);
  }

-- a drop of an owed notice; the watch is convicted, now or before
module _ (s : State) (l : Log) (b : Books s l) (n : ℕ) (e : Ended) (found : owed_as s n ≡ Some e) (c : Conviction) where
  pub dropped_books : Books (put_verdict (after_drop s n) (Guilty c)) (with_epochs l (alter (owed_under n) (stand Dropped) l.epochs))
  dropped_books = record {
    opens = λ t q. b.opens t q ∙ sym (stayed s l b n e found Dropped (same Open) (λ r. eqb r.thread t && q r) refl);
    owed = owed_left s l b n e found Dropped refl;
    waiting = λ q. b.waiting q ∙ sym (stayed s l b n e found Dropped (same Waiting) q refl);
    judgings = λ q. b.judgings q ∙ sym (stayed s l b n e found Dropped (same Judged) q refl);
    judged = b.judged ∙ sym (stayed s l b n e found Dropped (same Judged) any refl);
    dropped = (let x = b.dropped in let y = joined s l b n e found Dropped (same Dropped) any refl refl in omega arith);
    begins = b.begins ∙ sym (gone_long s l b n e found Dropped);
    numbers = λ m. stayed s l b n e found Dropped ended_any (λ r. eqb r.number m) refl ∙ b.numbers m;
    places = b.places;
    queue = b.queue;
    order = b.order;
    ahead = λ r. guilty_runs c r;
    early = λ r. guilty_runs c r;
  }
