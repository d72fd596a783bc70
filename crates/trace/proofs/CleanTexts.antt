-- A text whose run ends clean writes down a consistent trace. Assumes nothing.
use Rattle.std.proofs.Common.{◌≡◌, ℕ, ◌+◌, Bool, true, false, cond, ◌||◌, ltb, List, [], ◌∷◌, ◌++◌, length, Some, None, Ok, Err, codes, Option, Result, sym, refl, ap, ◌∙◌, subst, arith}
use Rattle.event.specs.declared.event.Event.{Event}
use Rattle.event.specs.declared.event.Event.TheVariants as event
use Rattle.line.specs.declared.fault.Garbled.{Garbled}
use Rattle.line.specs.declared.fault.Garbled.TheVariants.{End, TextLength}
use Rattle.fields.specs.Splits.{split}
use Rattle.semantics.specs.declared.verdict.Refusal.{Refusal}
use Rattle.semantics.specs.declared.verdict.Conviction.{Conviction}
use Rattle.semantics.specs.Calls.{Call, report, close, end, Answer, taken, refused, convicted}
use Rattle.semantics.specs.Calls
use Rattle.semantics.specs.Effect.{Outcome, unless_fault}
use Rattle.semantics.specs.Judging.{judge}
use Rattle.semantics.specs.Laws.{Rule, Precedes, by_rule}
use Rattle.semantics.specs.Lists.{first_of}
use Rattle.semantics.specs.Refusals.{refusals, making_checks}
use Rattle.semantics.specs.State.{State, made}
use Rattle.semantics.specs.Step.{answered, step}
use Rattle.semantics.specs.Trace.{Trace, met_with, follow, is_clean, says_clean}
use Rattle.consistency.proofs.Clean.{clean_is_consistent}
use Rattle.semantics.proofs.Followed.{follows}
use Rattle.table.specs.declared.fault.Fault.{Fault}
use Rattle.setup.specs.declared.setup.Setup.{Setup}
use Rattle.text.specs.Texts.{Reading, done, sets, tells, reading, wrong, over, closes, told, events, event_at, onward, from_names, heading, setup, later}
use Rattle.trace.specs.declared.fault.RunFault.{RunFault}
use Rattle.trace.specs.Plays.{Played, fault_in, reported_again, reported, ended, played}
use Rattle.trace.specs.Runs
use Rattle.trace.specs.Runs.{run, calls, while_taken, set_rule, made_by, run_all, run_text, written_trace}
use Rattle.trace.specs.Promises.{ConsistentIfClean, CleanTextIsConsistent}

-- Calls one after another make one trace.
follow_more : (R : Rule) (xs ys : List Call) (tr : Trace) (s : State) → follow R (xs ++ ys) tr s ≡ follow R ys (follow R xs tr s).0 (follow R xs tr s).1
follow_more R [] ys tr s = refl
follow_more R (c ∷ xs) ys tr s = follow_more R xs ys (met_with R s c ∷ tr) (step (by_rule R) s c).state

-- The state after the calls of an event is the one that was played.
module _ (R : Rule) where
  abbrev Reaches : State → Played → Type 0
  Reaches s p = (tr : Trace) → (follow R p.calls tr s).1 ≡ p.state

  again_reaches : (s : State) (n : ℕ) (g f : Option Fault) → Reaches s (reported_again (by_rule R) s n g f)
  again_reaches s n g None tr = refl
  again_reaches s n g (Some f) tr = refl

  report_reaches : (s : State) (n : ℕ) (f : Option Fault) → Reaches s (reported (by_rule R) s n f)
  report_reaches s n None tr = refl
  report_reaches s n (Some f) tr =
      let s₁ : State = (step (by_rule R) s (report n)).state in
      let s₂ : State = (step (by_rule R) s₁ Calls.settle).state in
      again_reaches s₂ n (fault_in (step (by_rule R) s₁ Calls.settle).answer) (fault_in (step (by_rule R) s₂ (report n)).answer) (met_with R s₁ Calls.settle ∷ (met_with R s (report n) ∷ tr))

  end_reaches : (s : State) (c : Call) (a : Answer) → Reaches s (ended (by_rule R) s c a)
  end_reaches s c (taken n) tr =
      let s₁ : State = (step (by_rule R) s c).state in
      report_reaches s₁ n (fault_in (step (by_rule R) s₁ (report n)).answer) (met_with R s c ∷ tr)
  end_reaches s c Calls.clean tr = refl
  end_reaches s c (refused r) tr = refl
  end_reaches s c (convicted x) tr = refl

  played_reaches : (s : State) (e : Event) → Reaches s (played (by_rule R) s e)
  played_reaches s (event.Preset place value) tr = refl
  played_reaches s (event.Commit thread class place value) tr = refl
  played_reaches s (event.Perform thread number time) tr = refl
  played_reaches s (event.Advance thread time) tr = refl
  played_reaches s (event.Begin thread kind place value time) tr = refl
  played_reaches s (event.End thread place value time) tr = end_reaches s (end thread place value time) (step (by_rule R) s (end thread place value time)).answer tr
  played_reaches s event.Settle tr = refl
  played_reaches s event.Close tr = refl

-- A close that tells no fault answers clean.
close_judged : (f : Option Conviction) (s : State) (o : Outcome) → says_clean o.answer ≡ true → fault_in (unless_fault f s o).answer ≡ None → says_clean (unless_fault f s o).answer ≡ true
close_judged (Some c) s o h e = absurd (grind arith)
close_judged None s o h e = h

close_answered : (B : Precedes) (s : State) (r : Option Refusal) → fault_in (answered B s close r).answer ≡ None → says_clean (answered B s close r).answer ≡ true
close_answered B s (Some r) e = absurd (grind arith)
close_answered B s None e = close_judged (judge (λ e. true) s s.waiting 0).fault _ _ refl e

close_is_clean : (B : Precedes) (s : State) → fault_in (step B s close).answer ≡ None → says_clean (step B s close).answer ≡ true
close_is_clean B s e = close_answered B s (first_of (refusals s close)) e

-- After a close the run makes no call.
none_after : (B : Precedes) (s : State) (k : ℕ) (b : Bool) → calls B s (cond b done (wrong (k + 1) End)) ≡ []
none_after B s k true = refl
none_after B s k false = refl

-- A run from s that ends clean makes any trace clean.
abbrev CleanFrom : Rule → State → ℕ → Reading → ℕ → Type 0
CleanFrom R s j r m = (tr : Trace) → run (by_rule R) s j r ≡ Ok m → is_clean (follow R (calls (by_rule R) s r) tr s).0 ≡ true

-- An event that told no fault, and what follows it.
go_on : (R : Rule) (s : State) (e : Event) (r : Reading) (tr : Trace) →
    is_clean (follow R (calls (by_rule R) (played (by_rule R) s e).state r) (follow R (played (by_rule R) s e).calls tr s).0 (played (by_rule R) s e).state).0 ≡ true →
    is_clean (follow R ((played (by_rule R) s e).calls ++ calls (by_rule R) (played (by_rule R) s e).state r) tr s).0 ≡ true
go_on R s e r tr h =
    let P : Played = played (by_rule R) s e in
    let more : List Call = calls (by_rule R) P.state r in
    let Clean : State → Type 0 = λ q. is_clean (follow R more (follow R P.calls tr s).0 q).0 ≡ true in
    let there : Clean (follow R P.calls tr s).1 = subst Clean (sym (played_reaches R s e tr)) h in
    ap (λ q. is_clean q.0) (follow_more R P.calls more tr s) ∙ there

by_fault : (R : Rule) (s : State) (k m : ℕ) (e : Event) (r : Reading) (tr : Trace) (f : Option Fault) →
    (f ≡ None → run (by_rule R) (played (by_rule R) s e).state k r ≡ Ok m →
    is_clean (follow R (calls (by_rule R) (played (by_rule R) s e).state r) (follow R (played (by_rule R) s e).calls tr s).0 (played (by_rule R) s e).state).0 ≡ true) →
    Runs.unless_fault k f (run (by_rule R) (played (by_rule R) s e).state k r) ≡ Ok m →
    is_clean (follow R ((played (by_rule R) s e).calls ++ while_taken f (calls (by_rule R) (played (by_rule R) s e).state r)) tr s).0 ≡ true
by_fault R s k m e r tr (Some f) next h = absurd (grind arith)
by_fault R s k m e r tr None next h = go_on R s e r tr (next refl h)

-- An event and what follows it: by what holds of every state after it where it is no close.
by_event : (R : Rule) (s : State) (k j m : ℕ) (e : Event) (b : Bool) (more : Reading) → ((q : State) → CleanFrom R q k more m) →
    CleanFrom R s j (tells k e (cond (closes e) (cond b done (wrong (k + 1) End)) more)) m
by_event R s k j m (event.Preset place value) b more next tr h = by_fault R s k m (event.Preset place value) more tr _ (λ _ g. next _ _ g) h
by_event R s k j m (event.Commit thread class place value) b more next tr h = by_fault R s k m (event.Commit thread class place value) more tr _ (λ _ g. next _ _ g) h
by_event R s k j m (event.Perform thread number time) b more next tr h = by_fault R s k m (event.Perform thread number time) more tr _ (λ _ g. next _ _ g) h
by_event R s k j m (event.Advance thread time) b more next tr h = by_fault R s k m (event.Advance thread time) more tr _ (λ _ g. next _ _ g) h
by_event R s k j m (event.Begin thread kind place value time) b more next tr h = by_fault R s k m (event.Begin thread kind place value time) more tr _ (λ _ g. next _ _ g) h
by_event R s k j m (event.End thread place value time) b more next tr h = by_fault R s k m (event.End thread place value time) more tr _ (λ _ g. next _ _ g) h
by_event R s k j m event.Settle b more next tr h = by_fault R s k m event.Settle more tr _ (λ _ g. next _ _ g) h
by_event R s k j m event.Close b more next tr h =
    let s₁ : State = (step (by_rule R) s close).state in
    let last : Trace = met_with R s close ∷ tr in
    by_fault R s k m event.Close (cond b done (wrong (k + 1) End)) tr _
    (λ f g.
    let here : is_clean last ≡ true = ap (λ c. c || is_clean tr) (close_is_clean (by_rule R) s f) in
    ap (λ cs. is_clean (follow R cs last s₁).0) (none_after (by_rule R) s₁ k b) ∙ here)
    h

by_line : (R : Rule) (s : State) (k j m : ℕ) (x : Result Event Garbled) (b : Bool) (more : Reading) → ((q : State) → CleanFrom R q k more m) →
    CleanFrom R s j (told k x (cond b done (wrong (k + 1) End)) more) m
by_line R s k j m (Err g) b more next tr h = absurd (grind arith)
by_line R s k j m (Ok e) b more next tr h = by_event R s k j m e b more next tr h

clean_events : (R : Rule) (ls : List (List ℕ)) (s : State) (k j m : ℕ) → CleanFrom R s j (events k ls) m
clean_events R [] s k j m tr h = absurd (grind arith)
clean_events R (l ∷ ls) s k j m tr h = by_line R s (k + 1) j m (event_at (l ∷ ls)) (over ls) (events (k + 1) ls) (λ q. clean_events R ls q (k + 1) (k + 1) m) tr h

-- The same after the line of names.
clean_named : (R : Rule) (s : State) (k j m : ℕ) (x : Result (Unit {0}) Garbled) (ls : List (List ℕ)) → CleanFrom R s j (onward k x (λ _. events k ls)) m
clean_named R s k j m (Err g) ls tr h = absurd (grind arith)
clean_named R s k j m (Ok u) ls tr h = clean_events R ls s k j m tr h

module _ (bytes : List ℕ) where
  -- A setup, and a run of the events after it.
  clean_made : (x : Setup) (r : Reading) (o : Option Refusal) → reading bytes ≡ sets x r → ((m : ℕ) → CleanFrom (set_rule x) (made x.threads) 3 r m) →
      (z : Result ℕ RunFault) → made_by o (run (by_rule (set_rule x)) (made x.threads) 3 r) ≡ z → ConsistentIfClean bytes z
  clean_made x r o e clean (Err f) h = tt
  clean_made x r (Some f) e clean (Ok m) h = absurd (grind arith)
  clean_made x r None e clean (Ok m) h =
      let R : Rule = set_rule x in
      let cs : List Call = calls (by_rule R) (made x.threads) r in
      record { setup = x; events = r; told = e; consistent = clean_is_consistent R x.threads (written_trace x r) _ (follows R x.threads cs) (clean m [] h) }

  clean_setup : (x : Result Setup Garbled) (ls : List (List ℕ)) → reading bytes ≡ onward 2 x (λ s. sets s (from_names 2 ls)) → ConsistentIfClean bytes (run_all (onward 2 x (λ s. sets s (from_names 2 ls))))
  clean_setup (Err g) ls e = tt
  clean_setup (Ok x) ls e =
      clean_made x (from_names 2 ls) (first_of (making_checks x.threads)) e
      (λ m. clean_named (set_rule x) (made x.threads) 3 3 m (heading (codes "event thread what place value time") ls) (later ls)) _ refl

  clean_headed : (x : Result (Unit {0}) Garbled) (y : Result Setup Garbled) (ls : List (List ℕ)) →
      reading bytes ≡ onward 1 x (λ _. onward 2 y (λ s. sets s (from_names 2 ls))) → ConsistentIfClean bytes (run_all (onward 1 x (λ _. onward 2 y (λ s. sets s (from_names 2 ls)))))
  clean_headed (Err g) y ls e = tt
  clean_headed (Ok u) y ls e = clean_setup y ls e

  clean_read : (b : Bool) (r : Reading) → reading bytes ≡ cond b (wrong 0 TextLength) r → (reading bytes ≡ r → ConsistentIfClean bytes (run_all r)) → ConsistentIfClean bytes (run_all (cond b (wrong 0 TextLength) r))
  clean_read true r e next = tt
  clean_read false r e next = next e

pub clean_text_is_consistent : CleanTextIsConsistent
clean_text_is_consistent bytes = clean_read bytes (ltb 65536 (length bytes)) _ refl
    (clean_headed bytes (heading (codes "rule threads") (split 10 bytes)) (setup (later (split 10 bytes))) (later (later (split 10 bytes))))
