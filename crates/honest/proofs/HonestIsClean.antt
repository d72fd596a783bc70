-- Every call of a record within the limits is taken, and its close answers clean. Assumes nothing.
use Rattle.std.proofs.Common.{◌≡◌, ℕ, suc, ◌<◌, ◌≤◌, Bool, true, false, cond, not, eqb, ◌⊎◌, List, [], ◌∷◌, ◌++◌, length, get_or, set, replicate, sym, refl, ap, ◌∙◌, subst, inl, inr, arith, length-set, map}
use Rattle.std.proofs.lemmas.Bool.{eq-eqb, le-ltb, cases_lt, true≢false}
use Rattle.std.proofs.lemmas.List.{get_or_past, get_or-replicate, length-replicate}
use mathlib.Core.Path.{fun_ext}
use Rattle.semantics.specs.declared.row.Ended.{Ended}
use Rattle.semantics.specs.declared.row.Home.{Home}
use Rattle.semantics.specs.declared.verdict.Verdict.TheVariants.{Running}
use Rattle.semantics.specs.Calls.{Call, preset, close, Answer, taken}
use Rattle.semantics.specs.Calls
use Rattle.semantics.specs.Effect.{closed}
use Rattle.semantics.specs.Laws.{Precedes, by_rule}
use Rattle.semantics.specs.Limits.{last_place, places}
use Rattle.semantics.specs.Puts.{put_value}
use Rattle.semantics.specs.State.{State, Thread, idle, unused, made, busy_threads, busy}
use Rattle.semantics.specs.Step.{step, answers}
use Rattle.honest.specs.Honest.{TakenThenClean, HonestIsClean}
use Rattle.honest.specs.Limits.{Use, no_use, after, Within, WithinLimits}
use Rattle.honest.specs.Machine.{Every, put}
use Rattle.honest.specs.Record.{Opening, nothing, presets, settles, preset_memory, Records}
use Rattle.honest.proofs.Accepts.{Accepts}
use Rattle.honest.proofs.RunIsJudgeable.{judgeable_run}
use Rattle.honest.proofs.Invariant.{ThreadFacts, Invariant, unrefused, starts_of}
use Rattle.honest.proofs.JudgesWithoutFault.{unnumbered, home_put, judges}
use Rattle.honest.proofs.Ends.{ends_in}
use Rattle.honest.proofs.Lists.{by_test}
use Rattle.honest.proofs.SafeTime.{notice}
use Rattle.honest.proofs.SameElements.{Same, none}
use Rattle.honest.proofs.SameEnds.{same_ends}
use Rattle.honest.proofs.Standing.{AllPlaced, placed_body}
use Rattle.honest.proofs.CallsAreTaken.{next}
use Rattle.honest.proofs.RunIsAccepted.{accepts_run}

-- The close.
map_nil : {A B : Type 0} (f : A → B) (xs : List A) → map f xs ≡ [] → xs ≡ []
map_nil f [] e = refl
map_nil f (x ∷ xs) e = let z : ◌≡◌ {A = ℕ} (length (map f (x ∷ xs))) 0 = ap length e in absurd (omega arith)

idle_threads : (ws : List Thread) → ((t : ℕ) → ((get_or ws t idle).pending ≡ []) × ((get_or ws t idle).epochs ≡ [])) → busy_threads ws ≡ 0
idle_threads [] h = refl
idle_threads (w ∷ ws) h =
    let r = idle_threads ws (λ t. h (suc t)) in
    let p : length w.pending ≡ 0 = ap length (h 0).0 in
    let q : length w.epochs ≡ 0 = ap length (h 0).1 in
    omega arith

closes_clean : (B : Precedes) (n : ℕ) (s : State) (a : Use) → Invariant B n s a [] → a.owed ≡ [] → (step B s close).answer ≡ Calls.clean
closes_clean B n s a i no_owed =
    let none_owed : s.owed ≡ [] = map_nil notice s.owed (sym i.owed ∙ no_owed) in
    let still : busy_threads s.threads ≡ 0 = idle_threads s.threads i.threads.accepts in
    let ol : length s.owed ≡ 0 = ap length none_owed in
    let not_busy : busy s ≡ 0 = omega arith in
    let due : Ended → Bool = λ e. true in
    let j = judges due (λ x y l d. absurd (true≢false d)) (map unnumbered s.owed ++ []) (λ e d. subst (λ z. Every (λ f. e.from ≤ f.from) (map unnumbered z ++ [])) (sym none_owed) tt)
    s.waiting s 0 i.pool i.sorted i.same i.homes i.laws in
    ap (λ z. z.answer) (unrefused B s close i.going refl (ap not (eq-eqb (busy s) 0 not_busy), tt) ∙ ap closed j.is)

-- The calls after the presets.
first_taken : (k : ℕ) (rest : List Answer) → TakenThenClean rest → TakenThenClean (taken k ∷ rest)
first_taken k [] h = absurd h
first_taken k (x ∷ rest) h = ((k, refl), h)

body_taken : (B : Precedes) (n : ℕ) (cs : List Call) (s : State) (a : Use) → 1 ≤ n → Invariant B n s a cs → AllPlaced n a cs → Within n a (cs ++ (close ∷ [])) → TakenThenClean (answers B s (cs ++ (close ∷ [])))
body_taken B n [] s a pos i pl wi = closes_clean B n s a i pl
body_taken B n (c ∷ cs) s a pos i pl wi =
    let x = next B n s a c cs pos i pl.0 wi.0 in
    subst (λ z. TakenThenClean (z.answer ∷ answers B z.state (cs ++ (close ∷ [])))) (sym x.is)
    (first_taken x.number (answers B x.state (cs ++ (close ∷ []))) (body_taken B n cs x.state (after n a c) pos x.kept pl.1 wi.1))

-- A new watch with these homes, in which only values are set.
abbrev pub with_homes : ℕ → List Home → State
with_homes n hs = record { threads = (made n).threads; homes = hs; owed = []; waiting = []; begins = 0; ends = 0; judged = 0; dropped = 0; verdict = Running }

pub record Fresh (hs : List Home) (f : ℕ → ℕ) : Type 0 where
  pub size : length hs ≡ places
  pub value : (p : ℕ) → (get_or hs p unused).value ≡ f p
  pub read : (p : ℕ) → (get_or hs p unused).read_end ≡ 0
  pub write : (p : ℕ) → (get_or hs p unused).write_end ≡ 0
  pub begun : (p : ℕ) → (get_or hs p unused).begun ≡ false

pub fresh_start : Fresh (replicate places unused) (λ p. 0)
fresh_start = record { size = length-replicate places unused; value = λ p. ap (λ z. z.value) (at p); read = λ p. ap (λ z. z.read_end) (at p); write = λ p. ap (λ z. z.write_end) (at p); begun = λ p. ap (λ z. z.begun) (at p) }
  where
    at : (p : ℕ) → get_or (replicate places unused) p unused ≡ unused
    at p = go (cases_lt p places)
      where
        go : (p < places) ⊎ (places ≤ p) → get_or (replicate places unused) p unused ≡ unused
        go (inl l) = get_or-replicate places p unused unused l
        go (inr l) = get_or_past (replicate places unused) p unused (let z = length-replicate places unused in omega arith)

-- The presets.
abbrev pub preset_at : List Home → ℕ → ℕ → List Home
preset_at hs p v = set hs p (put_value (get_or hs p unused) v)

pub fresh_put : (hs : List Home) (f : ℕ → ℕ) (p v : ℕ) → p ≤ last_place → Fresh hs f → Fresh (preset_at hs p v) (put f p v)
fresh_put hs f p v l h =
    let g = put_value (get_or hs p unused) v in
    let sz = h.size in
    let at : (q : ℕ) → get_or (set hs p g) q unused ≡ cond (eqb q p) g (get_or hs q unused) = λ q. home_put (with_homes 0 hs) p g (omega arith) q in
    record {
      size = length-set hs p g ∙ h.size;
      value = λ q. ap (λ z. z.value) (at q) ∙ by_test (λ b. (cond b g (get_or hs q unused)).value ≡ cond b v (f q)) (eqb q p) (λ _. refl) (λ _. h.value q);
      read = λ q. ap (λ z. z.read_end) (at q) ∙ by_test (λ b. (cond b g (get_or hs q unused)).read_end ≡ 0) (eqb q p) (λ _. h.read p) (λ _. h.read q);
      write = λ q. ap (λ z. z.write_end) (at q) ∙ by_test (λ b. (cond b g (get_or hs q unused)).write_end ≡ 0) (eqb q p) (λ _. h.write p) (λ _. h.write q);
      begun = λ q. ap (λ z. z.begun) (at q) ∙ by_test (λ b. (cond b g (get_or hs q unused)).begun ≡ false) (eqb q p) (λ _. h.begun p) (λ _. h.begun q);
    }

pub preset_step : (B : Precedes) (n : ℕ) (hs : List Home) (f : ℕ → ℕ) (p v : ℕ) → Fresh hs f → p ≤ last_place →
    step B (with_homes n hs) (preset p v) ≡ record { state = with_homes n (preset_at hs p v); answer = taken 0 }
preset_step B n hs f p v h l = unrefused B (with_homes n hs) (preset p v) refl refl (le-ltb last_place p l, (h.begun p, tt))

module _ (B : Precedes) (n : ℕ) (rest : List Call) where
  opening_taken : {ss : List Call} (hs : List Home) (f : ℕ → ℕ) → Fresh hs f → Opening ss →
      ((gs : List Home) → Fresh gs (preset_memory f ss) → TakenThenClean (answers B (with_homes n gs) rest)) → TakenThenClean (answers B (with_homes n hs) (ss ++ rest))
  opening_taken hs f h nothing k = k hs h
  opening_taken hs f h (presets {cs = ss} p v l r) k =
      subst (λ z. TakenThenClean (z.answer ∷ answers B z.state (ss ++ rest))) (sym (preset_step B n hs f p v h l))
      (first_taken 0 (answers B (with_homes n (preset_at hs p v)) (ss ++ rest)) (opening_taken (preset_at hs p v) (put f p v) (fresh_put hs f p v l h) r k))
  opening_taken hs f h (settles {cs = ss} r) k = first_taken 0 (answers B (with_homes n hs) (ss ++ rest)) (opening_taken hs f h r k)

-- The presets use nothing.
within_opening : (n : ℕ) {ss : List Call} (rest : List Call) → Opening ss → Within n no_use (ss ++ rest) → Within n no_use rest
within_opening n rest nothing w = w
within_opening n rest (presets p v l r) w = within_opening n rest r w.1
within_opening n rest (settles r) w = within_opening n rest r w.1

all_idle : (n t : ℕ) → get_or (replicate n idle) t idle ≡ idle
all_idle n t = go (cases_lt t n)
  where
    go : (t < n) ⊎ (n ≤ t) → get_or (replicate n idle) t idle ≡ idle
    go (inl l) = get_or-replicate n t idle idle l
    go (inr l) = get_or_past (replicate n idle) t idle (let z = length-replicate n idle in omega arith)

-- The invariant holds after the presets.
pub invariant_start : (B : Precedes) (n : ℕ) (calls : List Call) (r : Records B n calls) (hs : List Home) → Fresh hs (preset_memory (λ p. 0) r.opening) → Invariant B n (with_homes n hs) no_use r.body
invariant_start B n calls r hs h =
    let te : ◌≡◌ {A = ℕ → Thread} (λ t. get_or (replicate n idle) t idle) (λ t. idle) = fun_ext (all_idle n) in
    record {
      going = refl;
      size = length-replicate n idle;
      homes = h.size;
      threads = subst (λ X. ThreadFacts B n X no_use.threads r.body) (sym te) (record {
        accepts = λ t. subst (Accepts B n idle) (sym (r.own t)) (accepts_run r.run r.at_rest t);
        used = λ t. refl;
        numbered = λ t. omega arith;
      });
      begun = refl;
      ended = refl;
      owed = refl;
      rising = omega arith;
      waiting = none;
      sorted = tt;
      pool = ends_in (λ t. []) r.steps;
      same = subst (λ o. Same (ends_in o r.body) (ends_in (λ t. []) r.steps)) (sym (ap starts_of te)) (same_ends (λ t. []) r.body r.steps r.own);
      laws = λ p. judgeable_run r.run p (get_or hs p unused) (h.value p) (h.read p) (h.write p);
    }

taken_then_clean : (B : Precedes) (n : ℕ) (calls : List Call) → 1 ≤ n → Records B n calls → WithinLimits n calls → TakenThenClean (answers B (made n) calls)
taken_then_clean B n calls pos r w =
    let w' : WithinLimits n (r.opening ++ (r.body ++ (close ∷ []))) = subst (WithinLimits n) r.laid_out w in
    subst (λ z. TakenThenClean (answers B (made n) z)) (sym r.laid_out)
    (opening_taken B n (r.body ++ (close ∷ [])) (replicate places unused) (λ p. 0) fresh_start r.opens
    (λ gs h. body_taken B n r.body (with_homes n gs) no_use pos (invariant_start B n calls r gs h) (placed_body n r.body r.in_place r.reported)
    (within_opening n (r.body ++ (close ∷ [])) r.opens w')))

pub honest_is_clean : HonestIsClean
honest_is_clean R n calls = taken_then_clean (by_rule R) n calls
