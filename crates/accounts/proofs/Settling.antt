-- What a settle and a close write into the books, and so what every call does. Assumes nothing.
use Rattle.std.proofs.Common.{◌≡◌, ℕ, suc, ◌+◌, ◌≤◌, Bool, true, false, cond, ◌&&◌, eqb, ltb, List, [], ◌∷◌, ◌++◌, length, get_or, take, drop, Some, None, sym, refl, ap, ◌∙◌, subst, true≢false, arith, length-drop, take-append-drop}
use Rattle.std.proofs.lemmas.Bool.{ltb-true, leb-false}
use Rattle.std.proofs.lemmas.List.{length-take-le}
use Rattle.semantics.specs.declared.row.Operation.{Operation}
use Rattle.semantics.specs.declared.row.Ended.{Ended}
use Rattle.semantics.specs.declared.verdict.Conviction.{Conviction}
use Rattle.semantics.specs.declared.verdict.Refusal.{Refusal}
use Rattle.semantics.specs.declared.verdict.Verdict.{Verdict}
use Rattle.semantics.specs.declared.verdict.Verdict.TheVariants.{Running, Clean, Guilty}
use Rattle.semantics.specs.Calls.{Call, preset, commit, perform, advance, begin, end, report, drop as drop_call, settle, close, Answer, taken, refused, convicted}
use Rattle.semantics.specs.Calls
use Rattle.semantics.specs.Effect.{Outcome, touch}
use Rattle.semantics.specs.Judging.{Judging, judge, safe}
use Rattle.semantics.specs.Laws.{Precedes}
use Rattle.semantics.specs.Lists.{change}
use Rattle.semantics.specs.Puts.{put_verdict, convict}
use Rattle.semantics.specs.State.{State, idle, thread_of}
use Rattle.semantics.specs.Step.{step}
use Rattle.accounts.specs.Accounts.{Open, Owed, Waiting, Dropped, Log, is, same, sooner, judge_many, ahead_of, how_many, note}
use Rattle.accounts.specs.Deeds.{nothing, deed}
use Rattle.accounts.specs.Lists.{count, one_if, All, InOrder}
use Rattle.accounts.specs.Rows.{open_row}
use Rattle.accounts.proofs.Books.{Books, any, ended_any, quiet, quiet_convict, quiet_thread, once, early_kept, guilty_runs}
use Rattle.accounts.proofs.Counting.{all_map, all_append, all_left, all_right, count_like, count_all, count_append, all_sorted_cross, in_order_left, in_order_right, in_order_both}
use Rattle.accounts.proofs.Entries.{begun, finished_books, reported, dropped_books}
use Rattle.accounts.proofs.Judging.{ran, Ran, noted, Noted, ahead_at}
use Rattle.accounts.proofs.Moving.{tally}
use Rattle.accounts.proofs.NeverFalls.{Kept, kept_step}
use Rattle.accounts.proofs.Queues.{count_change}
use Rattle.accounts.proofs.Safe.{LowerIn, lower_safe, lower_less}
use Rattle.accounts.proofs.Steps.{checked}
use Rattle.accounts.proofs.Ways.{Ways, by_ways, after_drop, settling, closing, before_safe, every}

-- a refused call does nothing
pub refused_deed : (c : Call) (r : Refusal) → deed c (refused r) ≡ nothing
refused_deed (preset p v) r = refl
refused_deed (commit t c p v) r = refl
refused_deed (perform t n τ) r = refl
refused_deed (advance t τ) r = refl
refused_deed (begin t k p v τ) r = refl
refused_deed (end t p v τ) r = refl
refused_deed (report n) r = refl
refused_deed (drop_call n) r = refl
refused_deed settle r = refl
refused_deed close r = refl

module _ (s : State) (l : Log) (b : Books s l) (runs : s.verdict ≡ Running) (due : Ended → Bool) where
  abbrev j : Judging
  j = judge due s s.waiting 0

  abbrev r : Ran due s s.waiting 0 j
  r = ran due s s.waiting 0

  abbrev m : ℕ
  m = r.m

  abbrev js : List Ended
  js = l.judgings

  n : Noted s.waiting l (judge_many m l) m
  n = noted s.waiting l m r.fits b.queue b.waiting

  split : take m s.waiting ++ drop m s.waiting ≡ s.waiting
  split = take-append-drop m s.waiting

  in_two : InOrder sooner (take m s.waiting ++ drop m s.waiting)
  in_two = subst (InOrder sooner) (sym split) b.queue

  cross : All (λ x. All (λ w. sooner x w ≡ true) (take m s.waiting ++ drop m s.waiting)) js
  cross = subst (λ ws. All (λ x. All (λ w. sooner x w ≡ true) ws) js) (sym split) (b.ahead runs)

  -- the watch after judging, under whatever verdict
  judged_books : (v : Verdict) → Kept s (put_verdict j.state v) → (v ≡ Running → All (λ e. ltb e.from (safe s) ≡ true) (take m s.waiting)) → Books (put_verdict j.state v) (judge_many m l)
  judged_books v kept safely = record {
    opens = λ t q. ap (λ ws. count (λ e. q (open_row t e)) (get_or ws t idle).epochs) r.threads ∙ b.opens t q ∙ sym (n.others (same Open) (λ x. eqb x.thread t && q x) refl);
    owed = λ q. ap (count q) r.owed ∙ b.owed q ∙ sym (n.others (same Owed) q refl);
    waiting = λ q. ap (count q) r.waiting ∙ n.waiting q;
    judgings = λ q. ap (count q) n.judgings ∙ count_append q js (take m s.waiting) ∙ ap (λ x. x + count q (take m s.waiting)) (b.judgings q) ∙ sym (n.judged q);
    judged = (let x = r.judged in let y = b.judged in let z = n.judged any in let u = count_all (take m s.waiting) in let w = length-take-le m s.waiting r.fits in omega arith);
    dropped = r.dropped ∙ b.dropped ∙ sym (n.others (same Dropped) any refl);
    begins = r.begins ∙ b.begins ∙ sym n.long;
    numbers = λ k. n.others ended_any (λ x. eqb x.number k) refl ∙ b.numbers k ∙ ap (λ e. one_if (ltb k e)) (sym r.ends);
    places = λ t p. subst (λ ws. count (λ e. eqb e.place p) (get_or ws t idle).epochs ≤ 1) (sym r.threads) (b.places t p);
    queue = subst (InOrder sooner) (sym r.waiting) (in_order_right sooner (take m s.waiting) (drop m s.waiting) in_two);
    order = subst (InOrder sooner) (sym n.judgings)
        (in_order_both sooner js (take m s.waiting) b.order (in_order_left sooner (take m s.waiting) (drop m s.waiting) in_two)
        (all_map js (λ x h. all_left (λ w. sooner x w ≡ true) (take m s.waiting) (drop m s.waiting) h) cross));
    ahead = λ _. subst (λ ws. All (λ x. All (λ w. sooner x w ≡ true) ws) (judge_many m l).judgings) (sym r.waiting)
        (subst (λ xs. All (λ x. All (λ w. sooner x w ≡ true) (drop m s.waiting)) xs) (sym n.judgings)
        (all_append (λ x. All (λ w. sooner x w ≡ true) (drop m s.waiting)) js (take m s.waiting)
        (all_map js (λ x h. all_right (λ w. sooner x w ≡ true) (take m s.waiting) (drop m s.waiting) h) cross)
        (all_sorted_cross sooner (take m s.waiting) (drop m s.waiting) in_two)));
    early = λ g. subst (λ xs. All (λ x. LowerIn (suc x.from) (put_verdict j.state v)) xs) (sym n.judgings)
        (all_append (λ x. LowerIn (suc x.from) (put_verdict j.state v)) js (take m s.waiting)
        (early_kept s (put_verdict j.state v) js kept (b.early runs))
        (early_kept s (put_verdict j.state v) (take m s.waiting) kept
        (all_map (take m s.waiting) (λ x h. lower_less (suc x.from) (safe s) s.threads s.owed (ltb-true x.from (safe s) h) (lower_safe s)) (safely g))));
  }

  -- a conviction names how many were judged
  convicted_many : (c : Conviction) → j.fault ≡ Some c → ahead_of c.number l.epochs ≡ m
  convicted_many c h =
      let f = r.fault c h in
      ahead_at s.waiting m c.number f.0 f.1 l.epochs r.fits f.2 (sym f.3) b.queue (let o = once s l b c.number in omega arith) b.waiting

  -- one that judges all, and finds no fault, judges all
  all_many : ((e : Ended) → due e ≡ true) → j.fault ≡ None → count (is Waiting) l.epochs ≡ m
  all_many always h =
      let a : tally Waiting any l.epochs ≡ count (is Waiting) l.epochs = count_like _ _ l.epochs (λ e. by (is Waiting e)) in
      let c = b.waiting any in
      let d = count_all s.waiting in
      let e = r.fits in
      let f = length-drop m s.waiting in
      let g : length (drop m s.waiting) ≡ 0 = over (drop m s.waiting) refl in
      omega arith
    where
      by : (x : Bool) → (x && true) ≡ x
      by true = refl
      by false = refl

      over : (ws : List Ended) → drop m s.waiting ≡ ws → length (drop m s.waiting) ≡ 0
      over [] k = ap length k
      over (w ∷ ws) k = absurd (true≢false (sym (always w) ∙ r.stops h w ws k))

-- What is to be shown of settle and close is shown once, of the first m of the waiting judged, under whatever verdict: Q is of m, the watch and the log.
module _ (s : State) (l : Log) (b : Books s l) (Q : ℕ → State → Log → Type 0)
    (each : (due : Ended → Bool) (v : Verdict) → s.verdict ≡ Running → (v ≡ Running → (e : Ended) → due e ≡ true → ltb e.from (safe s) ≡ true)
    → Q (ran due s s.waiting 0).m (put_verdict (judge due s s.waiting 0).state v) (judge_many (ran due s s.waiting 0).m l)) where
  clean_runs : {A : Type 0} → Clean ≡ Running → A
  clean_runs e = let z : ◌≡◌ {A = ℕ} 0 1 = cc in absurd (omega arith)

  abbrev Then : State → Call → Answer → Type 0
  Then s' c a = Q (how_many l.epochs a) s' (note l (deed c a))

  pub at_settle : s.verdict ≡ Running → (settling s).fault ≡ None → Then (settling s).state settle (taken (settling s).done)
  at_settle g z = subst (λ k. Q k (settling s).state (judge_many k l)) (sym (let d = (ran (before_safe s) s s.waiting 0).done in let e : (settling s).done ≡ (ran (before_safe s) s s.waiting 0).m = omega arith in e)) (each (before_safe s) (settling s).state.verdict g (λ _ e h. h))

  pub at_settle_break : s.verdict ≡ Running → (c : Conviction) → (settling s).fault ≡ Some c → Then (convict (settling s).state c) settle (convicted c)
  at_settle_break g c z = subst (λ k. Q k (convict (settling s).state c) (judge_many k l)) (sym (convicted_many s l b g (before_safe s) c z)) (each (before_safe s) (Guilty c) g (λ e. guilty_runs c e))

  pub at_close : s.verdict ≡ Running → (closing s).fault ≡ None → Then (put_verdict (closing s).state Clean) close Calls.clean
  at_close g z = subst (λ k. Q k (put_verdict (closing s).state Clean) (judge_many k l)) (sym (all_many s l b g every (λ _. refl) z)) (each every Clean g (λ e. clean_runs e))

  pub at_close_break : s.verdict ≡ Running → (c : Conviction) → (closing s).fault ≡ Some c → Then (convict (closing s).state c) close (convicted c)
  at_close_break g c z = subst (λ k. Q k (convict (closing s).state c) (judge_many k l)) (sym (convicted_many s l b g every c z)) (each every (Guilty c) g (λ e. guilty_runs c e))

module _ (B : Precedes) (s : State) (l : Log) (b : Books s l) where
  -- what is to be shown of the outcome of a call
  abbrev Goal : Call → Outcome → Type 0
  Goal c o = Kept s o.state → Books o.state (note l (deed c o.answer))

  abbrev After : ℕ → State → Log → Type 0
  After k s' l' = Kept s s' → Books s' l'

  each : (due : Ended → Bool) (v : Verdict) → s.verdict ≡ Running → (v ≡ Running → (e : Ended) → due e ≡ true → ltb e.from (safe s) ≡ true) → After (ran due s s.waiting 0).m (put_verdict (judge due s s.waiting 0).state v) (judge_many (ran due s s.waiting 0).m l)
  each due v g safely kept = judged_books s l b g due v kept (λ e. all_map (take (ran due s s.waiting 0).m s.waiting) (safely e) (ran due s s.waiting 0).were_due)

  ways : Ways B s Goal
  ways = record {
    refuses = λ c r _. subst (λ d. Books s (note l d)) (sym (refused_deed c r)) b;
    presets = λ _ _ _ kept. quiet s _ l (record { opens = λ t p. refl; owed = refl; waiting = refl; begins = refl; ends = refl; judged = refl; dropped = refl; runs = λ x. x }) kept b;
    commits = λ t c p v f kept. quiet s _ l (quiet_thread s t _ (leb-false (length s.threads) t (checked s (commit t c p v) f).0) (λ q. refl)) kept b;
    advances = λ t τ f kept. quiet s _ l (quiet_thread s t _ (leb-false (length s.threads) t (checked s (advance t τ) f).0) (λ q. refl)) kept b;
    begins = begun B s l b;
    performs = λ t n τ f o _ _ kept. quiet s _ l (quiet_thread s t _ (leb-false (length s.threads) t (checked s (perform t n τ) f).0) (λ q. touched t τ q o _)) kept b;
    perform_breaks = λ _ _ _ c kept. quiet s _ l (quiet_convict s c) kept b;
    ends = λ t p v τ f e q _. finished_books B s l b t p v τ f e q;
    end_breaks = λ _ _ _ _ c kept. quiet s _ l (quiet_convict s c) kept b;
    reports = reported s l b;
    drop_breaks = λ n e q c _. dropped_books s l b n e q c;
    drops_later = λ n e q c g _. subst (λ v. Books (put_verdict (after_drop s n) v) (note l (deed (drop_call n) (taken 0)))) (sym g) (dropped_books s l b n e q c);
    settles = at_settle s l b After each;
    settle_breaks = at_settle_break s l b After each;
    closes = at_close s l b After each;
    close_breaks = at_close_break s l b After each;
  }
    where
      touched : (t τ : ℕ) (q : Ended → Bool) (o : Operation) (c : Bool) → count (λ e. q (open_row t e)) (cond c (change (λ e. eqb e.place o.place) (touch τ o) (thread_of s t).epochs) (thread_of s t).epochs) ≡ count (λ e. q (open_row t e)) (thread_of s t).epochs
      touched t τ q o false = refl
      touched t τ q o true = count_change (λ e. q (open_row t e)) (λ e. eqb e.place o.place) (touch τ o) (thread_of s t).epochs (λ _. refl)

pub books_step : (B : Precedes) (s : State) (l : Log) (c : Call) → Books s l → Books (step B s c).state (note l (deed c (step B s c).answer))
books_step B s l c b = by_ways B s (Goal B s l b) (ways B s l b) c (kept_step B s c)
