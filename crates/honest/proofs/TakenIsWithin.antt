-- A record whose every call is taken is within the limits. Assumes nothing.
use Rattle.std.proofs.Common.{◌≡◌, ℕ, ◌≤◌, List, [], ◌∷◌, ◌++◌, length, replicate, sym, refl, ap, ◌∙◌, subst, arith}
use Rattle.std.proofs.lemmas.Bool.{leb-false}
use Rattle.std.proofs.lemmas.List.{length-map}
use Rattle.semantics.specs.declared.row.Home.{Home}
use Rattle.semantics.specs.Calls.{Call, preset, commit, perform, advance, begin, end, report, drop, settle, close, Answer, taken}
use Rattle.semantics.specs.Laws.{Precedes, by_rule}
use Rattle.semantics.specs.Limits.{places, most_outstanding, most_commits, most_open, most_begins, most_owed, most_waiting}
use Rattle.semantics.specs.State.{State, unused, made, thread_of}
use Rattle.semantics.specs.Step.{step, answers}
use Rattle.honest.specs.Honest.{Taken, TakenThenClean, TakenIsWithin}
use Rattle.honest.specs.Limits.{Use, no_use, after, Room, Within, WithinLimits}
use Rattle.honest.specs.Machine.{put}
use Rattle.honest.specs.Record.{Opening, nothing, presets, settles, preset_memory}
use Rattle.honest.proofs.HonestIsClean.{with_homes, Fresh, fresh_start, preset_at, fresh_put, preset_step, invariant_start}
use Rattle.honest.proofs.Invariant.{Invariant, taken_off}
use Rattle.honest.proofs.SafeTime.{open_epoch, notice}
use Rattle.honest.proofs.SameElements.{same_length}
use Rattle.honest.proofs.Standing.{AllPlaced, placed_body}
use Rattle.honest.proofs.CallsAreTaken.{next}

-- A call that was taken had room.
had_room : (B : Precedes) (n : ℕ) (s : State) (a : Use) (c : Call) (cs : List Call) (k : ℕ) → Invariant B n s a (c ∷ cs) → (step B s c).answer ≡ taken k → Room a c
had_room B n s a (preset p v) cs k i e = tt
had_room B n s a (commit t c p v) cs k i e =
    let off = taken_off B s (commit t c p v) k i.going refl e in
    let x = leb-false most_outstanding (length (thread_of s t).pending) off.1.1.1.0 in let y = leb-false most_commits (thread_of s t).commits off.1.1.1.1.0 in
    let u = ap (λ z. z.outstanding) (i.threads.used t) in let v = ap (λ z. z.committed) (i.threads.used t) in
    (omega arith, omega arith)
had_room B n s a (perform t j τ) cs k i e = tt
had_room B n s a (advance t τ) cs k i e = tt
had_room B n s a (begin t j p v τ) cs k i e =
    let off = taken_off B s (begin t j p v τ) k i.going refl e in
    let x = leb-false most_open (length (thread_of s t).epochs) off.1.1.1.1.1.0 in let y = leb-false most_begins s.begins off.1.1.1.1.1.1.0 in
    let u : length (a.threads t).opened ≡ length (thread_of s t).epochs = ap (λ z. length z.opened) (i.threads.used t) ∙ length-map (thread_of s t).epochs open_epoch in let v = i.begun in
    (omega arith, omega arith)
had_room B n s a (end t p v τ) cs k i e =
    let off = taken_off B s (end t p v τ) k i.going refl e in
    let x = leb-false most_owed (length s.owed) off.1.1.1.1.0 in
    let u : length a.owed ≡ length s.owed = ap length i.owed ∙ length-map s.owed notice in
    omega arith
had_room B n s a (report j) cs k i e =
    let off = taken_off B s (report j) k i.going refl e in
    let x = leb-false most_waiting (length s.waiting) off.1.0 in
    let u : length a.waiting ≡ length s.waiting = same_length i.waiting ∙ length-map s.waiting (λ e. e.from) in
    omega arith
had_room B n s a (drop j) cs k i e = tt
had_room B n s a settle cs k i e = tt
had_room B n s a close cs k i e = tt

taken_parts : (x : Answer) (B : Precedes) (s : State) (cs : List Call) → TakenThenClean (x ∷ answers B s (cs ++ (close ∷ []))) → Taken x × TakenThenClean (answers B s (cs ++ (close ∷ [])))
taken_parts x B s [] h = h
taken_parts x B s (c ∷ cs) h = h

body_within : (B : Precedes) (n : ℕ) (cs : List Call) (s : State) (a : Use) → 1 ≤ n → Invariant B n s a cs → AllPlaced n a cs → TakenThenClean (answers B s (cs ++ (close ∷ []))) → Within n a (cs ++ (close ∷ []))
body_within B n [] s a pos i pl h = (tt, tt)
body_within B n (c ∷ cs) s a pos i pl h =
    let q = taken_parts (step B s c).answer B (step B s c).state cs h in
    let room = had_room B n s a c cs q.0.0 i q.0.1 in
    let x = next B n s a c cs pos i pl.0 room in
    (room, body_within B n cs x.state (after n a c) pos x.kept pl.1 (subst (λ z. TakenThenClean (answers B z.state (cs ++ (close ∷ [])))) x.is q.1))

-- The presets take no room.
opening_within : (n : ℕ) {ss : List Call} (rest : List Call) → Opening ss → Within n no_use rest → Within n no_use (ss ++ rest)
opening_within n rest nothing w = w
opening_within n rest (presets p v l r) w = (tt, opening_within n rest r w)
opening_within n rest (settles r) w = (tt, opening_within n rest r w)

rest_taken : (k : ℕ) (xs : List Answer) → TakenThenClean (taken k ∷ xs) → TakenThenClean xs
rest_taken k [] h = let z : ◌≡◌ {A = ℕ} 0 1 = cc in absurd (omega arith)
rest_taken k (y ∷ xs) h = h.1

module _ (B : Precedes) (n : ℕ) (rest : List Call) where
  after_opening : {ss : List Call} (hs : List Home) (f : ℕ → ℕ) → Fresh hs f → Opening ss → TakenThenClean (answers B (with_homes n hs) (ss ++ rest)) →
      (gs : List Home) × Fresh gs (preset_memory f ss) × TakenThenClean (answers B (with_homes n gs) rest)
  after_opening hs f h nothing t = (hs, h, t)
  after_opening hs f h (presets {cs = ss} p v l r) t =
      after_opening (preset_at hs p v) (put f p v) (fresh_put hs f p v l h) r
      (rest_taken 0 (answers B (with_homes n (preset_at hs p v)) (ss ++ rest)) (subst (λ z. TakenThenClean (z.answer ∷ answers B z.state (ss ++ rest))) (preset_step B n hs f p v h l) t))
  after_opening hs f h (settles {cs = ss} r) t = after_opening hs f h r (rest_taken 0 (answers B (with_homes n hs) (ss ++ rest)) t)

pub taken_is_within : TakenIsWithin
taken_is_within R n calls pos r t =
    let B = by_rule R in
    let t' = subst (λ z. TakenThenClean (answers B (made n) z)) r.laid_out t in
    let q = after_opening B n (r.body ++ (close ∷ [])) (replicate places unused) (λ p. 0) fresh_start r.opens t' in
    let w = body_within B n r.body (with_homes n q.0) no_use pos (invariant_start B n calls r q.0 q.1) (placed_body n r.body r.in_place r.reported) q.2 in
    subst (WithinLimits n) (sym r.laid_out) (opening_within n (r.body ++ (close ∷ [])) r.opens w)
