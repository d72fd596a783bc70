-- Each call of a record is taken, and keeps the invariant. Assumes nothing.
use Rattle.std.proofs.Common.{◌≡◌, ℕ, ◌+◌, ◌-◌, ◌<◌, ◌≤◌, Bool, true, false, cond, not, ◌&&◌, eqb, ltb, List, [], ◌∷◌, ◌++◌, length, get_or, Some, None, Option, sym, refl, ap, ◌∙◌, subst, append_assoc, arith, length-append, length-set, map}
use Rattle.std.proofs.lemmas.Bool.{eqb-true, eq-eqb, ltb-true, ltb-false, lt-ltb, le-ltb, lt-leb}
use Rattle.std.specs.List.{find, filter}
use Rattle.std.specs.Option.{is_some}
use Rattle.std.proofs.lemmas.List.{length-map, map-append}
use mathlib.Core.Path.{fun_ext}
use Rattle.semantics.specs.declared.row.Ended.{Ended}
use Rattle.semantics.specs.declared.row.Epoch.{Epoch}
use Rattle.semantics.specs.declared.row.Operation.{Operation}
use Rattle.semantics.specs.declared.verdict.Conviction.{Conviction}
use Rattle.semantics.specs.declared.verdict.Law.TheVariants.{EndTooEarly, WrongEndValue}
use Rattle.semantics.specs.Calls.{Call, preset, commit, perform, advance, begin, end, report, drop, settle, close, taken}
use Rattle.semantics.specs.Classes.{touches, last_class, op_class, operation}
use Rattle.semantics.specs.Effect
use Rattle.semantics.specs.Effect.{answer_of, uses_copy, touch, performed, perform_found, opened, begun, ended, ended_row, end_found, report_found, settled, effect}
use Rattle.semantics.specs.Judging.{insert, safe}
use Rattle.semantics.specs.Laws.{Precedes, perform_laws, law25, law26, end_laws}
use Rattle.semantics.specs.Limits.{last_place, last_kind, most_outstanding, most_commits, most_open, most_begins, most_owed, most_waiting}
use Rattle.semantics.specs.Lists.{change, first_some}
use Rattle.semantics.specs.Puts.{put_clock, put_thread, put_queues, without, marked}
use Rattle.semantics.specs.State.{State, Thread, idle, thread_of, home_of, outstanding_as, owed_as}
use Rattle.honest.specs.Limits.{Use, committing, performing, advancing, beginning, ending, before_safe, epoch_from, opened_from, notice_from, owed_from, Room}
use Rattle.honest.specs.Machine.{put}
use Rattle.honest.specs.Record.{own_steps, NotAfter}
use Rattle.honest.proofs.Accepts.{commits_to, enters, leaves, Accepts}
use Rattle.honest.proofs.Invariant.{ThreadFacts, Invariant, Next, unrefused, accepts_here, accepts_put, threads_put, starts_put, invariant_thread, starts_of}
use Rattle.honest.proofs.Judgeable.{Judgeable, judgeable_home}
use Rattle.honest.proofs.JudgesWithoutFault.{Sorted, unnumbered, pick_insert, sorted_insert, sorted_filter, home_put, judges}
use Rattle.honest.proofs.Ends.{start_of, ended_epochs, except_at, ends_in}
use Rattle.honest.proofs.Lists.{by_test, find_is, find_map, find_map_some, filter_of_map, map_change}
use Rattle.honest.proofs.Rising.{Rising, rising_push, rising_filter, rising_pick}
use Rattle.honest.proofs.SafeTime.{open_epoch, notice, use_of, safe_told, starts, tail_late}
use Rattle.honest.proofs.SameElements.{Pick, Same, more, same_move, same_length, same_filter, pick_map, pick_left, pick_right, pick_length}
use Rattle.honest.proofs.Standing.{step_time, Placed}

place_off : (b : Bool) (p : ℕ) → (b ≡ true → p ≤ last_place) → (b && ltb last_place p) ≡ false
place_off true p h = le-ltb last_place p (h refl)
place_off false p h = refl

next_commit : (B : Precedes) (n : ℕ) (s : State) (a : Use) (t c p v : ℕ) (cs : List Call) → Invariant B n s a (commit t c p v ∷ cs) → Room a (commit t c p v) → Next B n s a (commit t c p v) cs
next_commit B n s a t c p v cs i room =
    let W = thread_of s in
    let g = accepts_here B n W t (commit t c p v) cs i.threads.accepts in
    let g0 = g.0 in let sz = i.size in let r0 = room.0 in let r1 = room.1 in
    let o0 = ap (λ z. z.outstanding) (i.threads.used t) in let c0 = ap (λ z. z.committed) (i.threads.used t) in
    let o = operation (W t).commits c p v in
    record {
      number = (W t).commits;
      state = put_thread s t (commits_to (W t) c p v);
      is = unrefused B s (commit t c p v) i.going refl
          (lt-leb (length s.threads) t (omega arith), (le-ltb last_class c g.1, (place_off (touches (op_class c)) p g.2, (lt-leb most_outstanding (length (W t).pending) (omega arith), (lt-leb most_commits (W t).commits (omega arith), tt)))));
      kept = invariant_thread B n s a (commit t c p v) cs t (commits_to (W t) c p v) (committing (a.threads t)) i g.0
          (accepts_put B n W t (commit t c p v) cs i.threads.accepts (commits_to (W t) c p v) g.3)
          (ap committing (i.threads.used t) ∙ ap (λ z. record { clock = (W t).clock; committed = (W t).commits + 1; outstanding = z; opened = map open_epoch (W t).epochs }) (sym (length-append (W t).pending (o ∷ []))))
          (rising_push (λ o. o.number) 0 (W t).pending (W t).commits o refl (i.threads.numbered t)) refl i.same;
    }

performed_keeps : {A : Type 0} (g : Epoch → A) (w : Thread) (o : Operation) (τ : ℕ) → ((x : Epoch) → g (touch τ o x) ≡ g x) → map g (performed w o τ).epochs ≡ map g w.epochs
performed_keeps g w o τ h = by_test (λ b. map g (cond b (change (λ e. eqb e.place o.place) (touch τ o) w.epochs) w.epochs) ≡ map g w.epochs) (uses_copy w o)
    (λ _. map_change g (λ e. eqb e.place o.place) (touch τ o) h w.epochs) (λ _. refl)

performed_use : (w : Thread) (o : Operation) (τ : ℕ) → length w.pending - 1 ≡ length (performed w o τ).pending → performing τ (use_of w) ≡ use_of (performed w o τ)
performed_use w o τ e =
    ap (λ z. record { clock = τ; committed = w.commits; outstanding = z; opened = map open_epoch w.epochs }) e
    ∙ ap (λ z. record { clock = τ; committed = w.commits; outstanding = length (performed w o τ).pending; opened = z }) (sym (performed_keeps open_epoch w o τ (λ _. refl)))

effect_perform : (B : Precedes) (s : State) (t k τ : ℕ) (o : Operation) → outstanding_as (thread_of s t) k ≡ Some o → perform_laws B (thread_of s t) t o ≡ None →
    effect B s (perform t k τ) ≡ record { state = put_thread s t (performed (thread_of s t) o τ); answer = taken (answer_of (thread_of s t) o) }
effect_perform B s t k τ o f l = ap (perform_found B s t τ) f ∙ ap (Effect.performing s t τ o) l

next_perform : (B : Precedes) (n : ℕ) (s : State) (a : Use) (t k τ : ℕ) (cs : List Call) → Invariant B n s a (perform t k τ ∷ cs) → Next B n s a (perform t k τ) cs
next_perform B n s a t k τ cs i =
    let W = thread_of s in
    let g = accepts_here B n W t (perform t k τ) cs i.threads.accepts in
    let g0 = g.0 in let sz = i.size in
    let o = g.2.0 in
    let w : Thread = performed (W t) o τ in
    let ok : o.number ≡ k = eqb-true o.number k (find_is (λ x. eqb x.number k) (W t).pending o g.2.1) in
    let pk = pick_length (rising_pick (λ x. x.number) k 0 (W t).pending (W t).commits o (i.threads.numbered t) g.2.1) in
    let lk : length w.pending ≡ length (filter (λ x. not (eqb x.number k)) (W t).pending) = ap (λ z. length (filter (λ x. not (eqb x.number z)) (W t).pending)) ok in
    let one_less : length (W t).pending - 1 ≡ length w.pending = omega arith in
    record {
      number = answer_of (W t) o;
      state = put_thread s t w;
      is = unrefused B s (perform t k τ) i.going refl (lt-leb (length s.threads) t (omega arith), (le-ltb τ (W t).clock g.1, (ap (λ z. not (is_some z)) g.2.1, tt)))
          ∙ effect_perform B s t k τ o g.2.1 g.2.2;
      kept = invariant_thread B n s a (perform t k τ) cs t w (performing τ (a.threads t)) i g.0
          (accepts_put B n W t (perform t k τ) cs i.threads.accepts w g.2.3)
          (ap (performing τ) (i.threads.used t) ∙ performed_use (W t) o τ one_less)
          (rising_filter (λ o. o.number) (λ x. not (eqb x.number o.number)) 0 (W t).pending (W t).commits (i.threads.numbered t))
          (performed_keeps start_of (W t) o τ (λ _. refl)) i.same;
    }

-- A thread whose clock is raised, not past its next step, accepts the same.
accepts_raise : (B : Precedes) (n t τ : ℕ) (w : Thread) (cs : List Call) → NotAfter τ (step_time t cs) → Accepts B n w (own_steps t cs) → Accepts B n (put_clock w τ) (own_steps t cs)
accepts_raise B n t τ w [] l g = g
accepts_raise B n t τ w (preset p v ∷ cs) l g = accepts_raise B n t τ w cs l g
accepts_raise B n t τ w (commit u c p v ∷ cs) l g =
    by_test (λ b. Accepts B n w (cond b (commit u c p v ∷ own_steps t cs) (own_steps t cs)) → Accepts B n (put_clock w τ) (cond b (commit u c p v ∷ own_steps t cs) (own_steps t cs))) (eqb u t)
    (λ _ g. (g.0, g.1, g.2, accepts_raise B n t τ (commits_to w c p v) cs l g.3)) (λ _ g. accepts_raise B n t τ w cs l g) g
accepts_raise B n t τ w (perform u k υ ∷ cs) l g =
    by_test (λ b. NotAfter τ (cond b (Some υ) (step_time t cs)) → Accepts B n w (cond b (perform u k υ ∷ own_steps t cs) (own_steps t cs)) → Accepts B n (put_clock w τ) (cond b (perform u k υ ∷ own_steps t cs) (own_steps t cs))) (eqb u t)
    (λ _ l g. (g.0, l, g.2)) (λ _ l g. accepts_raise B n t τ w cs l g) l g
accepts_raise B n t τ w (advance u υ ∷ cs) l g = accepts_raise B n t τ w cs l g
accepts_raise B n t τ w (begin u k p v υ ∷ cs) l g =
    by_test (λ b. NotAfter τ (cond b (Some υ) (step_time t cs)) → Accepts B n w (cond b (begin u k p v υ ∷ own_steps t cs) (own_steps t cs)) → Accepts B n (put_clock w τ) (cond b (begin u k p v υ ∷ own_steps t cs) (own_steps t cs))) (eqb u t)
    (λ _ l g. (g.0, g.1, g.2, l, g.4, g.5)) (λ _ l g. accepts_raise B n t τ w cs l g) l g
accepts_raise B n t τ w (end u p v υ ∷ cs) l g =
    by_test (λ b. NotAfter τ (cond b (Some υ) (step_time t cs)) → Accepts B n w (cond b (end u p v υ ∷ own_steps t cs) (own_steps t cs)) → Accepts B n (put_clock w τ) (cond b (end u p v υ ∷ own_steps t cs) (own_steps t cs))) (eqb u t)
    (λ _ l g. (g.0, g.1, l, g.3)) (λ _ l g. accepts_raise B n t τ w cs l g) l g
accepts_raise B n t τ w (report k ∷ cs) l g = accepts_raise B n t τ w cs l g
accepts_raise B n t τ w (drop k ∷ cs) l g = accepts_raise B n t τ w cs l g
accepts_raise B n t τ w (settle ∷ cs) l g = accepts_raise B n t τ w cs l g
accepts_raise B n t τ w (close ∷ cs) l g = accepts_raise B n t τ w cs l g

next_advance : (B : Precedes) (n : ℕ) (s : State) (a : Use) (t τ : ℕ) (cs : List Call) → Invariant B n s a (advance t τ ∷ cs) → Placed n a (advance t τ) cs → Next B n s a (advance t τ) cs
next_advance B n s a t τ cs i st =
    let W = thread_of s in
    let s0 = st.0 in let s1 = st.1 in let sz = i.size in let c0 = ap (λ z. z.clock) (i.threads.used t) in
    let w : Thread = put_clock (W t) τ in
    record {
      number = 0;
      state = put_thread s t w;
      is = unrefused B s (advance t τ) i.going refl (lt-leb (length s.threads) t (omega arith), (le-ltb τ (W t).clock (omega arith), tt));
      kept = invariant_thread B n s a (advance t τ) cs t w (advancing τ (a.threads t)) i st.0
          (λ u. by_test (λ b. Accepts B n (cond b w (W u)) (own_steps u cs)) (eqb u t)
          (λ b. subst (λ z. Accepts B n w (own_steps z cs)) (sym (eqb-true u t b)) (accepts_raise B n t τ (W t) cs st.2 (i.threads.accepts t))) (λ _. i.threads.accepts u))
          (ap (advancing τ) (i.threads.used t)) (i.threads.numbered t) refl i.same;
    }

next_begin : (B : Precedes) (n : ℕ) (s : State) (a : Use) (t k p v τ : ℕ) (cs : List Call) → Invariant B n s a (begin t k p v τ ∷ cs) → Room a (begin t k p v τ) → Next B n s a (begin t k p v τ) cs
next_begin B n s a t k p v τ cs i room =
    let W = thread_of s in
    let g = accepts_here B n W t (begin t k p v τ) cs i.threads.accepts in
    let g0 = g.0 in let g2 = g.2 in let sz = i.size in let r0 = room.0 in let r1 = room.1 in let hm = i.homes in let bg = i.begun in
    let e : Epoch = opened k p v τ in
    let w : Thread = enters (W t) e in
    let h = marked (home_of s p) in
    let len : length (a.threads t).opened ≡ length (W t).epochs = ap (λ z. length z.opened) (i.threads.used t) ∙ length-map (W t).epochs open_epoch in
    record {
      number = 0;
      state = begun s t e;
      is = unrefused B s (begin t k p v τ) i.going refl
          (lt-leb (length s.threads) t (omega arith), (le-ltb last_kind k g.1, (le-ltb last_place p g.2, (le-ltb τ (W t).clock g.3, (ap is_some g.4, (lt-leb most_open (length (W t).epochs) (omega arith), (lt-leb most_begins s.begins (omega arith), tt)))))));
      kept = record {
        going = i.going;
        size = length-set s.threads t w ∙ i.size;
        homes = length-set s.homes p h ∙ i.homes;
        threads = threads_put B n s a.threads t (beginning p τ (a.threads t)) w cs (omega arith) i.threads.used i.threads.numbered
            (accepts_put B n W t (begin t k p v τ) cs i.threads.accepts w g.5)
            (ap (beginning p τ) (i.threads.used t)
            ∙ ap (λ z. record { clock = τ; committed = (W t).commits; outstanding = length (W t).pending; opened = z }) (sym (map-append open_epoch (W t).epochs (e ∷ []))))
            (i.threads.numbered t);
        begun = ap (λ z. z + 1) i.begun;
        ended = i.ended;
        owed = i.owed;
        rising = i.rising;
        waiting = i.waiting;
        sorted = i.sorted;
        pool = i.pool;
        same = subst (λ o. Same (map unnumbered s.waiting ++ (map unnumbered s.owed ++ ends_in o cs)) i.pool)
            (sym (starts_put s t w (omega arith) ∙ ap (put (starts s) t) (map-append start_of (W t).epochs (e ∷ [])))) i.same;
        laws = λ q. subst (λ z. Judgeable q z i.pool) (sym (home_put s p h (omega arith) q))
            (by_test (λ b. Judgeable q (cond b h (home_of s q)) i.pool) (eqb q p)
            (λ b. subst (λ z. Judgeable q z i.pool) (ap (λ x. marked (home_of s x)) (eqb-true q p b)) (judgeable_home q (home_of s q) (marked (home_of s q)) i.pool refl refl refl (i.laws q)))
            (λ _. i.laws q));
      };
    }

end_laws_none : (t v τ : ℕ) (e : Epoch) → e.used < τ → v ≡ e.copy → end_laws t e v τ ≡ None
end_laws_none t v τ e u c = both (law25 t e τ) (law26 t e v)
    (ap (λ b. cond b None (Some (record { law = EndTooEarly; thread = t; number = e.place; other = e.used }))) (lt-ltb e.used τ u))
    (ap (λ b. cond b None (Some (record { law = WrongEndValue; thread = t; number = e.place; other = e.copy }))) (eq-eqb v e.copy c))
  where
    both : (x y : Option Conviction) → x ≡ None → y ≡ None → first_some (x ∷ y ∷ []) ≡ None
    both x y a b = cc

next_end : (B : Precedes) (n : ℕ) (s : State) (a : Use) (t p v τ : ℕ) (cs : List Call) → Invariant B n s a (end t p v τ ∷ cs) → Room a (end t p v τ) → Next B n s a (end t p v τ) cs
next_end B n s a t p v τ cs i room =
    let W = thread_of s in
    let g = accepts_here B n W t (end t p v τ) cs i.threads.accepts in
    let g0 = g.0 in let sz = i.size in
    let e = g.3.0 in
    let w : Thread = leaves (W t) e τ in
    let ep : e.place ≡ p = eqb-true e.place p (find_is (λ x. eqb x.place p) (W t).epochs e g.3.1) in
    let ol : length a.owed ≡ length s.owed = ap length i.owed ∙ length-map s.owed notice in
    let r = ended_row s.ends t e v τ in
    let fo : opened_from p (a.threads t) ≡ e.from = ap (opened_from p) (i.threads.used t) ∙ ap epoch_from (find_map (λ x. eqb x.place p) open_epoch (W t).epochs e g.3.1) in
    let A = ends_in (put (starts s) t (except_at (starts s t) p)) cs in
    record {
      number = s.ends;
      state = ended s t e v τ;
      is = unrefused B s (end t p v τ) i.going refl
          (lt-leb (length s.threads) t (omega arith), (le-ltb last_place p g.1, (le-ltb τ (W t).clock g.2, (ap (λ z. not (is_some z)) g.3.1, (lt-leb most_owed (length s.owed) (omega arith), tt)))))
          ∙ ap (end_found s t v τ) g.3.1 ∙ ap (Effect.ending s t e v τ) (end_laws_none t v τ e g.3.2 g.3.3);
      kept = record {
        going = i.going;
        size = length-set s.threads t w ∙ i.size;
        homes = i.homes;
        threads = threads_put B n s a.threads t (ending p τ (a.threads t)) w cs (omega arith) i.threads.used i.threads.numbered
            (accepts_put B n W t (end t p v τ) cs i.threads.accepts w g.3.4)
            (ap (ending p τ) (i.threads.used t) ∙ ap (λ z. record { clock = τ; committed = (W t).commits; outstanding = length (W t).pending; opened = z })
            (filter_of_map (λ e. not (eqb e.place p)) open_epoch (W t).epochs ∙ ap (λ z. map open_epoch (filter (λ x. not (eqb x.place z)) (W t).epochs)) (sym ep)))
            (i.threads.numbered t);
        begun = i.begun;
        ended = ap (λ z. z + 1) i.ended;
        owed = ap (λ z. a.owed ++ (record { number = a.ended; from = z } ∷ [])) fo ∙ ap (λ z. a.owed ++ (record { number = z; from = e.from } ∷ [])) i.ended
            ∙ ap (λ z. z ++ (notice r ∷ [])) i.owed ∙ sym (map-append notice s.owed (r ∷ []));
        rising = rising_push (λ e. e.number) 0 s.owed s.ends r refl i.rising;
        waiting = i.waiting;
        sorted = i.sorted;
        pool = i.pool;
        same = subst (λ o. Same (map unnumbered s.waiting ++ (map unnumbered (s.owed ++ (r ∷ [])) ++ ends_in o cs)) i.pool)
            (sym (starts_put s t w (omega arith) ∙ ap (put (starts s) t) (ap (λ z. map start_of (filter (λ x. not (eqb x.place z)) (W t).epochs)) ep ∙ sym (filter_of_map (λ l. not (eqb l.place p)) start_of (W t).epochs))))
            (subst (λ z. Same (map unnumbered s.waiting ++ z) i.pool)
            (sym (ap (λ z. z ++ A) (map-append unnumbered s.owed (r ∷ [])) ∙ append_assoc (map unnumbered s.owed) (unnumbered r ∷ []) A))
            (subst (λ z. Same (map unnumbered s.waiting ++ (map unnumbered s.owed ++ (ended_epochs t z v τ ++ A))) i.pool) (find_map (λ l. eqb l.place p) start_of (W t).epochs e g.3.1) i.same));
        laws = i.laws;
      };
    }

next_report : (B : Precedes) (n : ℕ) (s : State) (a : Use) (k : ℕ) (cs : List Call) → Invariant B n s a (report k ∷ cs) → Placed n a (report k) cs → Room a (report k) → Next B n s a (report k) cs
next_report B n s a k cs i st room =
    let f = find_map_some (λ e. eqb e.number k) notice s.owed st.0 (ap (find (λ e. eqb e.number k)) (sym i.owed) ∙ st.1) in
    let e = f.it in
    let fd : owed_as s k ≡ Some e = f.found in
    let rest = without k s.owed in
    let A = ends_in (starts s) cs in
    let pk : Pick e s.owed rest = rising_pick (λ x. x.number) k 0 s.owed s.ends e i.rising fd in
    let wl : length a.waiting ≡ length s.waiting = same_length i.waiting ∙ length-map s.waiting (λ e. e.from) in
    let from : owed_from k a ≡ e.from = ap notice_from st.1 ∙ sym (ap (λ z. z.from) f.is) in
    let tb = i.threads in
    record {
      number = 0;
      state = put_queues s rest (insert e s.waiting);
      is = unrefused B s (report k) i.going refl (ap (λ z. not (is_some z)) fd, (lt-leb most_waiting (length s.waiting) (omega arith), tt)) ∙ ap (report_found s k) fd;
      kept = record {
        going = i.going;
        size = i.size;
        homes = i.homes;
        threads = record { accepts = tb.accepts; used = tb.used; numbered = tb.numbered };
        begun = i.begun;
        ended = i.ended;
        owed = ap (filter (λ x. not (eqb x.number k))) i.owed ∙ filter_of_map (λ x. not (eqb x.number k)) notice s.owed;
        rising = rising_filter (λ e. e.number) (λ x. not (eqb x.number k)) 0 s.owed s.ends i.rising;
        waiting = subst (λ z. Same (z ∷ a.waiting) (map (λ e. e.from) (insert e s.waiting))) (sym from) (more (pick_map (λ e. e.from) (pick_insert e s.waiting)) i.waiting);
        sorted = sorted_insert e s.waiting i.sorted;
        pool = i.pool;
        same = same_move (pick_right (map unnumbered s.waiting) (pick_left A (pick_map unnumbered pk))) (pick_left (map unnumbered rest ++ A) (pick_map unnumbered (pick_insert e s.waiting))) i.same;
        laws = i.laws;
      };
    }

next_settle : (B : Precedes) (n : ℕ) (s : State) (a : Use) (cs : List Call) → 1 ≤ n → Invariant B n s a (settle ∷ cs) → Next B n s a settle cs
next_settle B n s a cs pos i =
    let tb = i.threads in
    let due : Ended → Bool = λ e. ltb e.from (safe s) in
    let A = ends_in (starts s) cs in
    let j = judges due (λ x y l d. let z = ltb-false x.from (safe s) d in le-ltb y.from (safe s) (omega arith)) (map unnumbered s.owed ++ A)
    (λ e d. tail_late B n e.from s cs i.size tb.accepts (ltb-true e.from (safe s) d)) s.waiting s 0 i.pool i.sorted i.same i.homes i.laws in
    let st = j.state in
    let te : thread_of st ≡ thread_of s = ap {B = ℕ → Thread} (λ z t. get_or z t idle) j.threads in
    let same_test : (λ (x : ℕ). not (before_safe n a x)) ≡ (λ (x : ℕ). not (ltb x (safe s))) = fun_ext (λ x. ap not (safe_told a s n i.size pos tb.used i.owed x)) in
    record {
      number = j.done;
      state = st;
      is = unrefused B s settle i.going refl tt ∙ ap settled j.is;
      kept = record {
        going = j.verdict ∙ i.going;
        size = ap length j.threads ∙ i.size;
        homes = j.homes;
        threads = subst (λ X. ThreadFacts B n X a.threads cs) (sym te) (record { accepts = tb.accepts; used = tb.used; numbered = tb.numbered });
        begun = i.begun ∙ sym j.begins;
        ended = i.ended ∙ sym j.ends;
        owed = i.owed ∙ ap (map notice) (sym j.owed);
        rising = subst (λ z. Rising (λ e. e.number) 0 z st.ends) (sym j.owed) (subst (λ z. Rising (λ e. e.number) 0 s.owed z) (sym j.ends) i.rising);
        waiting = subst (λ z. Same (filter (λ x. not (before_safe n a x)) a.waiting) z)
            (ap (λ f. filter f (map (λ e. e.from) s.waiting)) same_test ∙ filter_of_map (λ x. not (ltb x (safe s))) (λ e. e.from) s.waiting ∙ ap (map (λ e. e.from)) (sym j.waiting))
            (same_filter (λ x. not (before_safe n a x)) i.waiting);
        sorted = subst Sorted (sym j.waiting) (sorted_filter (λ e. not (due e)) s.waiting i.sorted);
        pool = j.pool;
        same = subst (λ z. Same (map unnumbered st.waiting ++ (map unnumbered z ++ ends_in (starts st) cs)) j.pool) (sym j.owed)
            (subst (λ o. Same (map unnumbered st.waiting ++ (map unnumbered s.owed ++ ends_in o cs)) j.pool) (sym (ap starts_of te)) j.same);
        laws = j.laws;
      };
    }

-- Any call of a record, after the presets and before the close.
pub next : (B : Precedes) (n : ℕ) (s : State) (a : Use) (c : Call) (cs : List Call) → 1 ≤ n → Invariant B n s a (c ∷ cs) → Placed n a c cs → Room a c → Next B n s a c cs
next B n s a (preset p v) cs pos i st room = absurd st
next B n s a (commit t c p v) cs pos i st room = next_commit B n s a t c p v cs i room
next B n s a (perform t k τ) cs pos i st room = next_perform B n s a t k τ cs i
next B n s a (advance t τ) cs pos i st room = next_advance B n s a t τ cs i st
next B n s a (begin t k p v τ) cs pos i st room = next_begin B n s a t k p v τ cs i room
next B n s a (end t p v τ) cs pos i st room = next_end B n s a t p v τ cs i room
next B n s a (report k) cs pos i st room = next_report B n s a k cs i st room
next B n s a (drop k) cs pos i st room = absurd st
next B n s a settle cs pos i st room = next_settle B n s a cs pos i
next B n s a close cs pos i st room = absurd st
