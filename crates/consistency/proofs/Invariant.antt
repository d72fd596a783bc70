-- What holds of a running watch and what it has met, and how each taken call keeps it. Assumes nothing.
use Rattle.std.proofs.Common.{◌≡◌, ℕ, ◌<◌, ◌≤◌, max, Bool, true, false, cond, not, eqb, ◌⊎◌, List, [], ◌∷◌, ◌++◌, length, get_or, set, Some, None, Option, sym, refl, ap, ◌∙◌, subst, inl, inr, ⊎_elim, arith, length-set}
use Rattle.std.proofs.lemmas.List.{get_or-set_same, get_or-set_other, get_or_past}
use Rattle.std.proofs.lemmas.Bool.{true≢false, both_ways, cases_eq, cases_lt, eqb-true, eq-eqb, ne_eqb, ltb-false, cond-true, cond-false}
use Rattle.semantics.specs.declared.row.Operation.{Operation}
use Rattle.semantics.specs.declared.row.Epoch.{Epoch}
use Rattle.semantics.specs.declared.row.Ended.{Ended}
use Rattle.semantics.specs.declared.row.Home.{Home}
use Rattle.semantics.specs.declared.verdict.Conviction.{Conviction}
use Rattle.semantics.specs.Classes.{operation}
use Rattle.semantics.specs.Effect.{answer_of, performed, begun, ended, ended_row}
use Rattle.semantics.specs.Judging.{ended_le, insert, bar, law27, law28, home_laws, judged_home}
use Rattle.semantics.specs.Laws.{Rule}
use Rattle.semantics.specs.Limits.{last_place, places}
use Rattle.semantics.specs.Lists.{first_some}
use Rattle.semantics.specs.Puts.{put_clock, committed, put_value, put_ends, marked, put_thread, put_home, put_queues, without}
use Rattle.semantics.specs.State.{Thread, State, idle, unused, thread_of, home_of, epoch_at, owed_as}
use Rattle.consistency.proofs.Lists.{Mem, mem_push, mem_push_old, mem_push_new, find_some, filter_mem, mem_filter, Rising, rising_push, rising_filter, rising_one}
use Rattle.consistency.proofs.Outstanding.{Ops, done_as}
use Rattle.consistency.proofs.Homes.{Homes, judge_keeps_homes, same_keeps_homes, preset_keeps_homes}
use Rattle.consistency.proofs.Laws.{Performs}
use Rattle.consistency.proofs.Tests.{first_some_none, cond_none, cond_none_not}
use Rattle.consistency.proofs.Threads.{ThreadHolds, set_keeps_all, frame_keeps_thread, other_keeps_thread, commit_keeps_thread, raise_keeps_thread, begin_keeps_thread, perform_keeps_thread, end_keeps_thread}

-- An epoch that has ended and was not dropped.
abbrev pub Past : List Ended → List Ended → List Ended → Ended → Type 0
Past judged waiting owed X = Mem X judged ⊎ (Mem X waiting ⊎ Mem X owed)

-- `judged` are the epochs judged so far, the newest first. `prog` gives each thread's program, `start` each place's starting value.
pub record WatchHolds (R : Rule) (ops : Ops) (prog : ℕ → List Operation) (start : ℕ → ℕ) (threads : List Thread) (homes : List Home) (owed waiting : List Ended) (ends : ℕ) : Type 0 where
  pub judged : List Ended
  pub each_thread : (t : ℕ) → ThreadHolds R ops (prog t) (λ p. (get_or homes p unused).begun) (Past judged waiting owed) t (get_or threads t idle)
  pub values : Homes start judged (λ p. get_or homes p unused)
  pub started : (X : Ended) → Past judged waiting owed X → (get_or homes X.place unused).begun ≡ true
  pub rising : Rising (λ (X : Ended). X.number) owed
  pub below : (X : Ended) → Mem X owed → X.number < ends
  pub long : length homes ≡ places

-- What holds of a state.
abbrev pub StateHolds : Rule → Ops → (ℕ → List Operation) → (ℕ → ℕ) → State → Type 0
StateHolds R ops prog start s = WatchHolds R ops prog start s.threads s.homes s.owed s.waiting s.ends

-- What holds of all homes holds after one is changed.
set_keeps_homes : (F : ℕ → Home → Type 0) (homes : List Home) (p : ℕ) (h : Home) → p < length homes → F p h → ((q : ℕ) → (q ≡ p → ⊥) → F q (get_or homes q unused)) → (q : ℕ) → F q (get_or (set homes p h) q unused)
set_keeps_homes F homes p h l here there q = ⊎_elim
    (λ e. subst (λ z. F z (get_or (set homes p h) z unused)) (sym e) (subst (F p) (sym (get_or-set_same homes p h unused l)) here))
    (λ ne. subst (F q) (sym (get_or-set_other homes p q h unused ne)) (there q ne)) (cases_eq q p)

-- A begun place has a home.
begun_within : (homes : List Home) (p : ℕ) → (get_or homes p unused).begun ≡ true → p < length homes
begun_within homes p h = ⊎_elim (λ l. l) (λ l. absurd (true≢false (sym h ∙ ap (λ (z : Home). z.begun) (get_or_past homes p unused l)))) (cases_lt p (length homes))

module _ {R : Rule} {ops : Ops} {prog : ℕ → List Operation} {start : ℕ → ℕ} (s : State) where
  pub preset_keeps : (p v : ℕ) → p ≤ last_place → (home_of s p).begun ≡ false → StateHolds R ops prog start s → StateHolds R ops prog (λ q. cond (eqb q p) v (start q)) (put_home s p (put_value (home_of s p) v))
  preset_keeps p v l free i = record {
    judged = i.judged;
    each_thread = λ t. frame_keeps_thread (λ X h _. h) (λ X h. h) same_begun (i.each_thread t);
    values = preset_keeps_homes start (λ q. cond (eqb q p) v (start q)) i.judged (home_of s) (λ q. get_or (set s.homes p h') q unused) p
        (λ w m e. both_ways _ free (subst (λ z. (home_of s z).begun ≡ true) e (i.started w (inl m))))
        (ap (λ (h : Home). h.value) (get_or-set_same s.homes p h' unused within) ∙ sym (cond-true (eqb p p) v (start p) (eq-eqb p p refl)))
        (λ q ne. ap (λ (h : Home). h.value) (get_or-set_other s.homes p q h' unused ne))
        (λ q ne. cond-false (eqb q p) v (start q) (ne_eqb q p ne))
        (set_keeps_homes (λ q h. h.write_end ≡ (home_of s q).write_end) s.homes p h' within refl (λ q _. refl))
        (set_keeps_homes (λ q h. h.read_end ≡ (home_of s q).read_end) s.homes p h' within refl (λ q _. refl)) i.values;
    started = λ X m. same_begun X.place (i.started X m);
    rising = i.rising;
    below = i.below;
    long = length-set s.homes p h' ∙ i.long;
  }
    where
      h' : Home
      h' = put_value (home_of s p) v

      within : p < length s.homes
      within = let n = i.long in omega arith

      same_begun : (q : ℕ) → (home_of s q).begun ≡ true → (get_or (set s.homes p h') q unused).begun ≡ true
      same_begun = set_keeps_homes (λ q h. (home_of s q).begun ≡ true → h.begun ≡ true) s.homes p h' within (λ e. e) (λ q _ e. e)

  pub commit_keeps : (t c p v : ℕ) → t < length s.threads → StateHolds R ops prog start s
      → StateHolds R ops (λ u. cond (eqb u t) (prog u ++ (operation (length (prog u)) c p v ∷ [])) (prog u)) start (put_thread s t (committed (thread_of s t) (operation (thread_of s t).commits c p v)))
  commit_keeps t c p v l i = record {
    judged = i.judged;
    each_thread = set_keeps_all (λ u w. ThreadHolds R ops (prog' u) (λ p. (home_of s p).begun) (Past i.judged s.waiting s.owed) u w) s.threads t _ l
        (subst (λ g. ThreadHolds R ops g (λ p. (home_of s p).begun) (Past i.judged s.waiting s.owed) t (committed (thread_of s t) o)) (sym here) (commit_keeps_thread o refl (i.each_thread t)))
        (λ u ne. subst (λ g. ThreadHolds R ops g (λ p. (home_of s p).begun) (Past i.judged s.waiting s.owed) u (thread_of s u))
        (sym (cond-false (eqb u t) (prog u ++ (operation (length (prog u)) c p v ∷ [])) (prog u) (ne_eqb u t ne))) (i.each_thread u));
    values = i.values;
    started = i.started;
    rising = i.rising;
    below = i.below;
    long = i.long;
  }
    where
      o : Operation
      o = operation (thread_of s t).commits c p v

      prog' : ℕ → List Operation
      prog' u = cond (eqb u t) (prog u ++ (operation (length (prog u)) c p v ∷ [])) (prog u)

      here : prog' t ≡ prog t ++ (o ∷ [])
      here = cond-true (eqb t t) (prog t ++ (operation (length (prog t)) c p v ∷ [])) (prog t) (eq-eqb t t refl) ∙ ap (λ n. prog t ++ (operation n c p v ∷ [])) (i.each_thread t).outstanding.counted

  pub perform_keeps : (t : ℕ) (o : Operation) (τ : ℕ) → t < length s.threads → (thread_of s t).clock ≤ τ → Performs R (thread_of s t) o τ → StateHolds R ops prog start s
      → StateHolds R (ops ++ (done_as t τ (answer_of (thread_of s t) o) o ∷ [])) prog start (put_thread s t (performed (thread_of s t) o τ))
  perform_keeps t o τ l c f i = record {
    judged = i.judged;
    each_thread = set_keeps_all (λ u w. ThreadHolds R (ops ++ (done_as t τ (answer_of (thread_of s t) o) o ∷ [])) (prog u) (λ p. (home_of s p).begun) (Past i.judged s.waiting s.owed) u w) s.threads t _ l
        (perform_keeps_thread o τ c f (i.each_thread t)) (λ u ne. other_keeps_thread _ (λ e. ne (sym e)) (i.each_thread u));
    values = i.values;
    started = i.started;
    rising = i.rising;
    below = i.below;
    long = i.long;
  }

  pub advance_keeps : (t τ : ℕ) → t < length s.threads → (thread_of s t).clock ≤ τ → StateHolds R ops prog start s → StateHolds R ops prog start (put_thread s t (put_clock (thread_of s t) τ))
  advance_keeps t τ l c i = record {
    judged = i.judged;
    each_thread = set_keeps_all (λ u w. ThreadHolds R ops (prog u) (λ p. (home_of s p).begun) (Past i.judged s.waiting s.owed) u w) s.threads t _ l (raise_keeps_thread τ c (i.each_thread t)) (λ u ne. i.each_thread u);
    values = i.values;
    started = i.started;
    rising = i.rising;
    below = i.below;
    long = i.long;
  }

  pub begin_keeps : (t : ℕ) (e : Epoch) → t < length s.threads → e.place ≤ last_place → (thread_of s t).clock ≤ e.from → epoch_at (thread_of s t) e.place ≡ None → e.used ≡ e.from → e.copy ≡ e.start
      → StateHolds R ops prog start s → StateHolds R ops prog start (begun s t e)
  begin_keeps t e l lp c free used copy i = record {
    judged = i.judged;
    each_thread = set_keeps_all (λ u w. ThreadHolds R ops (prog u) (λ p. (get_or (set s.homes e.place h') p unused).begun) (Past i.judged s.waiting s.owed) u w) s.threads t _ l
        (begin_keeps_thread e c free used copy now more (i.each_thread t)) (λ u ne. frame_keeps_thread (λ X h _. h) (λ X h. h) more (i.each_thread u));
    values = same_keeps_homes
        (set_keeps_homes (λ q h. h.value ≡ (home_of s q).value) s.homes e.place h' within refl (λ q _. refl))
        (set_keeps_homes (λ q h. h.write_end ≡ (home_of s q).write_end) s.homes e.place h' within refl (λ q _. refl))
        (set_keeps_homes (λ q h. h.read_end ≡ (home_of s q).read_end) s.homes e.place h' within refl (λ q _. refl)) i.values;
    started = λ X m. more X.place (i.started X m);
    rising = i.rising;
    below = i.below;
    long = length-set s.homes e.place h' ∙ i.long;
  }
    where
      h' : Home
      h' = marked (home_of s e.place)

      within : e.place < length s.homes
      within = let n = i.long in omega arith

      now : (get_or (set s.homes e.place h') e.place unused).begun ≡ true
      now = ap (λ (h : Home). h.begun) (get_or-set_same s.homes e.place h' unused within)

      more : (q : ℕ) → (home_of s q).begun ≡ true → (get_or (set s.homes e.place h') q unused).begun ≡ true
      more = set_keeps_homes (λ q h. (home_of s q).begun ≡ true → h.begun ≡ true) s.homes e.place h' within (λ _. refl) (λ q _ g. g)

  pub end_keeps : (t p τ : ℕ) (e : Epoch) (v : ℕ) → t < length s.threads → (thread_of s t).clock ≤ τ → epoch_at (thread_of s t) p ≡ Some e → e.used < τ → v ≡ e.copy
      → StateHolds R ops prog start s → StateHolds R ops prog start (ended s t e v τ)
  end_keeps t p τ e v l c old u rv i = record {
    judged = i.judged;
    each_thread = set_keeps_all (λ u w. ThreadHolds R ops (prog u) (λ p. (home_of s p).begun) (Past i.judged s.waiting (s.owed ++ (row ∷ []))) u w) s.threads t _ l
        (end_keeps_thread p τ e row old back on (inr (inr (mem_push_new row s.owed))) refl refl refl refl refl rv refl u c (i.each_thread t))
        (λ u ne. frame_keeps_thread (λ X h th. ⊎_elim (λ g. g) (λ g. absurd (ne (sym th ∙ ap (λ (z : Ended). z.thread) g))) (back X h)) on (λ _ g. g) (i.each_thread u));
    values = i.values;
    started = λ X h. ⊎_elim (λ g. i.started X g)
        (λ g. subst (λ z. (home_of s z).begun ≡ true) (sym (ap (λ (z : Ended). z.place) g ∙ (i.each_thread t).epochs.placed p e old)) ((i.each_thread t).started p e old)) (back X h);
    rising = rising_push (λ (X : Ended). X.number) s.owed row i.rising (λ X m. i.below X m);
    below = λ X m. ⊎_elim (λ k. let b = i.below X k in omega arith) (λ k. let b = ap (λ (z : Ended). z.number) k in omega arith) (mem_push X row s.owed m);
    long = i.long;
  }
    where
      row : Ended
      row = ended_row s.ends t e v τ

      back : (X : Ended) → Past i.judged s.waiting (s.owed ++ (row ∷ [])) X → Past i.judged s.waiting s.owed X ⊎ (X ≡ row)
      back X = ⊎_elim (λ m. inl (inl m)) (⊎_elim (λ m. inl (inr (inl m))) (λ m. ⊎_elim (λ k. inl (inr (inr k))) inr (mem_push X row s.owed m)))

      on : (X : Ended) → Past i.judged s.waiting s.owed X → Past i.judged s.waiting (s.owed ++ (row ∷ [])) X
      on X = ⊎_elim inl (⊎_elim (λ m. inr (inl m)) (λ m. inr (inr (mem_push_old X row s.owed m))))

-- A row among the waiting.
insert_here : (e : Ended) (xs : List Ended) → Mem e (insert e xs)
insert_here e [] = inl refl
insert_here e (x ∷ xs) = by (ended_le e x) (insert_here e xs)
  where
    by : (b : Bool) → Mem e (insert e xs) → Mem e (cond b (e ∷ x ∷ xs) (x ∷ insert e xs))
    by true ih = inl refl
    by false ih = inr ih

insert_old : (e : Ended) (xs : List Ended) (X : Ended) → Mem X xs → Mem X (insert e xs)
insert_old e [] X m = absurd m
insert_old e (x ∷ xs) X m = by (ended_le e x) m (insert_old e xs X)
  where
    by : (b : Bool) → (X ≡ x) ⊎ Mem X xs → (Mem X xs → Mem X (insert e xs)) → Mem X (cond b (e ∷ x ∷ xs) (x ∷ insert e xs))
    by true n ih = inr n
    by false (inl n) ih = inl n
    by false (inr n) ih = inr (ih n)

insert_mem : (e : Ended) (xs : List Ended) (X : Ended) → Mem X (insert e xs) → (X ≡ e) ⊎ Mem X xs
insert_mem e [] X (inl m) = inl m
insert_mem e [] X (inr m) = absurd m
insert_mem e (x ∷ xs) X m = by (ended_le e x) m (insert_mem e xs X)
  where
    by : (b : Bool) → Mem X (cond b (e ∷ x ∷ xs) (x ∷ insert e xs)) → (Mem X (insert e xs) → (X ≡ e) ⊎ Mem X xs) → (X ≡ e) ⊎ ((X ≡ x) ⊎ Mem X xs)
    by true (inl n) ih = inl n
    by true (inr n) ih = inr n
    by false (inl n) ih = inr (inl n)
    by false (inr n) ih = ⊎_elim inl (λ k. inr (inr k)) (ih n)

pub report_keeps : {R : Rule} {ops : Ops} {prog : ℕ → List Operation} {start : ℕ → ℕ} (s : State) (n : ℕ) (e : Ended) → owed_as s n ≡ Some e
    → StateHolds R ops prog start s → StateHolds R ops prog start (put_queues s (without n s.owed) (insert e s.waiting))
report_keeps {R} {ops} {prog} {start} s n e f i = record {
  judged = i.judged;
  each_thread = λ t. frame_keeps_thread (λ X h _. ⊎_elim inl (λ m. inr (back X m)) h) (λ X h. ⊎_elim inl (λ m. inr (on X m)) h) (λ _ g. g) (i.each_thread t);
  values = i.values;
  started = λ X h. i.started X (⊎_elim inl (λ m. inr (back X m)) h);
  rising = rising_filter (λ (X : Ended). X.number) _ s.owed i.rising;
  below = λ X m. i.below X (filter_mem _ s.owed X m).0;
  long = i.long;
}
  where
    fs : Mem e s.owed × (eqb e.number n ≡ true)
    fs = find_some (λ x. eqb x.number n) s.owed e f

    owes : (X : Ended) → Mem X s.owed → (X.number ≡ n) ⊎ (X.number ≡ n → ⊥) → Mem X (insert e s.waiting) ⊎ Mem X (without n s.owed)
    owes X m (inl k) = inl (subst (λ z. Mem z (insert e s.waiting)) (sym (rising_one (λ (X : Ended). X.number) s.owed i.rising X e m fs.0 (k ∙ sym (eqb-true e.number n fs.1)))) (insert_here e s.waiting))
    owes X m (inr ne) = inr (mem_filter (λ x. not (eqb x.number n)) s.owed X m (ap not (ne_eqb X.number n ne)))

    back : (X : Ended) → Mem X (insert e s.waiting) ⊎ Mem X (without n s.owed) → Mem X s.waiting ⊎ Mem X s.owed
    back X = ⊎_elim (λ m. ⊎_elim (λ k. inr (subst (λ z. Mem z s.owed) (sym k) fs.0)) inl (insert_mem e s.waiting X m)) (λ m. inr (filter_mem _ s.owed X m).0)

    on : (X : Ended) → Mem X s.waiting ⊎ Mem X s.owed → Mem X (insert e s.waiting) ⊎ Mem X (without n s.owed)
    on X = ⊎_elim (λ m. inl (insert_old e s.waiting X m)) (λ m. owes X m (cases_eq X.number n))

-- The first of the waiting is judged.
pub judge_keeps : {R : Rule} {ops : Ops} {prog : ℕ → List Operation} {start : ℕ → ℕ} {threads : List Thread} {homes : List Home} {owed : List Ended} {ends : ℕ} (e : Ended) (es : List Ended)
    → home_laws (get_or homes e.place unused) e ≡ None
    → WatchHolds R ops prog start threads homes owed (e ∷ es) ends → WatchHolds R ops prog start threads (set homes e.place (judged_home (get_or homes e.place unused) e)) owed es ends
judge_keeps {start = start} {threads} {homes} {owed} e es laws i = record {
  judged = e ∷ i.judged;
  each_thread = λ t. frame_keeps_thread (λ X h _. back X h) on same_begun (i.each_thread t);
  values = judge_keeps_homes start i.judged (λ p. get_or homes p unused) (λ p. get_or (set homes e.place h') p unused) e
      ((i.each_thread e.thread).epochs.spanned e (inr (inl (inl refl))) refl).0
      (λ w. past_reads e.writes w late) (past_writes e.writes late)
      (eqb-true _ _ (cond_none _ _ two.0))
      (get_or-set_same homes e.place h' unused within) (λ q ne. get_or-set_other homes e.place q h' unused ne) i.values;
  started = λ X h. same_begun X.place (i.started X (back X h));
  rising = i.rising;
  below = i.below;
  long = length-set homes e.place h' ∙ i.long;
}
  where
    h : Home
    h = get_or homes e.place unused

    h' : Home
    h' = judged_home (get_or homes e.place unused) e

    within : e.place < length homes
    within = begun_within homes e.place (i.started e (inr (inl (inl refl))))

    one : (law27 h e ≡ None) × (first_some (law28 h e ∷ []) ≡ None)
    one = first_some_none (law27 h e) (law28 h e ∷ []) laws

    two : (law28 h e ≡ None) × (◌≡◌ {A = Option Conviction} None None)
    two = first_some_none (law28 h e) [] one.1

    late : bar h e ≤ e.from
    late = ltb-false e.from (bar h e) (cond_none_not _ _ one.0)

    past_reads : (b : Bool) → b ≡ true → cond b (max h.read_end h.write_end) h.write_end ≤ e.from → h.read_end ≤ e.from
    past_reads true q l = omega arith
    past_reads false q l = absurd (true≢false (sym q))

    past_writes : (b : Bool) → cond b (max h.read_end h.write_end) h.write_end ≤ e.from → h.write_end ≤ e.from
    past_writes true l = omega arith
    past_writes false l = l

    keeps : (b : Bool) → (cond {A = Home} b (put_ends (put_value h e.last) h.read_end e.until) (put_ends h (max h.read_end e.until) h.write_end)).begun ≡ h.begun
    keeps true = refl
    keeps false = refl

    same_begun : (q : ℕ) → (get_or homes q unused).begun ≡ true → (get_or (set homes e.place h') q unused).begun ≡ true
    same_begun = set_keeps_homes (λ q g. (get_or homes q unused).begun ≡ true → g.begun ≡ true) homes e.place h' within (λ g. keeps e.writes ∙ g) (λ q _ g. g)

    back : (X : Ended) → Past (e ∷ i.judged) es owed X → Past i.judged (e ∷ es) owed X
    back X (inl (inl m)) = inr (inl (inl m))
    back X (inl (inr m)) = inl m
    back X (inr (inl m)) = inr (inl (inr m))
    back X (inr (inr m)) = inr (inr m)

    on : (X : Ended) → Past i.judged (e ∷ es) owed X → Past (e ∷ i.judged) es owed X
    on X (inl m) = inl (inr m)
    on X (inr (inl (inl m))) = inl (inl m)
    on X (inr (inl (inr m))) = inr (inl m)
    on X (inr (inr m)) = inr (inr m)
