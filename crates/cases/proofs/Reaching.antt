-- Runs to a limit, by induction over how far it still is. Assumes nothing.
use Rattle.std.proofs.Common.{◌≡◌, ℕ, zero, suc, ◌+◌, ◌<◌, ◌≤◌, Bool, true, false, cond, not, eqb, ltb, leb, List, [], ◌∷◌, ◌++◌, map, find, is_some, length, get_or, set, replicate, Some, None, sym, refl, ap, ◌∙◌, subst, add-zero, add-one, arith}
use Rattle.std.proofs.lemmas.List.{length_push}
use Rattle.std.proofs.lemmas.Bool.{lt-leb, le-leb, lt-ltb, le-ltb, eq-eqb, ne_eqb}
use Rattle.queue.specs.Fields.{in_turn}
use Rattle.semantics.specs.declared.row.Ended.{Ended}
use Rattle.semantics.specs.declared.row.Epoch.{Epoch}
use Rattle.semantics.specs.declared.row.Home.{Home}
use Rattle.semantics.specs.declared.verdict.Conviction.{Conviction}
use Rattle.semantics.specs.declared.verdict.Law.TheVariants.{EndTooEarly}
use Rattle.semantics.specs.declared.verdict.Limit.TheVariants as limit
use Rattle.semantics.specs.declared.verdict.Refusal.TheVariants.{UnknownPlace, PastTime, AlreadyBegun, NotOwed, Over}
use Rattle.semantics.specs.declared.verdict.Verdict.TheVariants.{Running}
use Rattle.semantics.specs.Calls.{Call, begin, end, report, Answer}
use Rattle.semantics.specs.Calls
use Rattle.semantics.specs.Effect.{Outcome, opened, ended_row}
use Rattle.semantics.specs.Effect
use Rattle.semantics.specs.Judging.{insert, ended_le}
use Rattle.semantics.specs.Laws.{Precedes}
use Rattle.semantics.specs.Puts.{marked}
use Rattle.cases.specs.Records.{Shown, taken, refused, shown}
use Rattle.semantics.specs.State.{State, unused}
use Rattle.semantics.specs.Step.{answered, step, answers}
use Rattle.cases.specs.Runs.{opening, ends_taken, reporting, reports_taken}
use Rattle.cases.specs.Runs

-- What calls answer, by numbers.
abbrev pub told : Precedes → State → List Call → List Shown
told B s cs = map shown (answers B s cs)

-- A watch of one thread: its homes, the thread's clock, how many epochs began and ended, and the epochs open, owed and waiting.
abbrev pub shape : List Home → (clock begins ends : ℕ) → List Epoch → List Ended → List Ended → State
shape hs τ b e es o w = record { threads = record { clock = τ; commits = 0; pending = []; epochs = es } ∷ []; homes = hs; owed = o; waiting = w; begins = b; ends = e; judged = 0; dropped = 0; verdict = Running }

-- The homes after a begin of a place.
abbrev pub begun_at : List Home → ℕ → List Home
begun_at hs p = set hs p (marked (get_or hs p unused))

-- A first call with a known outcome, and then others.
pub told_first : (B : Precedes) (s s' : State) (c : Call) (a : Answer) (cs : List Call) → step B s c ≡ record { state = s'; answer = a } → told B s (c ∷ cs) ≡ shown a ∷ told B s' cs
told_first B s s' c a cs p = ap (λ o. shown o.answer ∷ told B o.state cs) p

-- A first call with a known answer, and no other.
pub told_last : (B : Precedes) (s : State) (c : Call) (a : Answer) → (step B s c).answer ≡ a → told B s (c ∷ []) ≡ shown a ∷ []
told_last B s c a p = ap (λ x. shown x ∷ []) p

-- Epochs of the first k places, open from the time 0.
abbrev pub reads : ℕ → List Epoch
reads zero = []
reads (suc k) = reads k ++ (opened 0 k 0 0 ∷ [])

pub reads_count : (k : ℕ) → length (reads k) ≡ k
reads_count zero = refl
reads_count (suc k) = length_push (reads k) (opened 0 k 0 0) ∙ ap (λ n. n + 1) (reads_count k) ∙ add-one k

-- Neither the list nor what is pushed has it.
pub not_found : {A : Type 0} (f : A → Bool) (xs : List A) (x : A) → find f xs ≡ None → f x ≡ false → find f (xs ++ (x ∷ [])) ≡ None
not_found f [] x p q = λ i. cond (q i) (Some x) None
not_found f (y ∷ ys) x p q = by (f y) p (λ e. not_found f ys x e q)
  where
    by : (b : Bool) → cond b (Some y) (find f ys) ≡ None → (find f ys ≡ None → find f (ys ++ (x ∷ [])) ≡ None) → cond b (Some y) (find f (ys ++ (x ∷ []))) ≡ None
    by true e k = e
    by false e k = k e

pub not_open : (k p : ℕ) → k ≤ p → find (λ (e : Epoch). eqb e.place p) (reads k) ≡ None
not_open zero p h = refl
not_open (suc k) p h = not_found (λ (e : Epoch). eqb e.place p) (reads k) (opened 0 k 0 0) (not_open k p (omega arith)) (ne_eqb k p (λ e. absurd (omega arith)))

-- The begin of the place k, where k are open.
pub opens_more : (B : Precedes) (hs : List Home) (k : ℕ) → k < 32 → step B (shape hs 0 k 0 (reads k) [] []) (begin 0 0 k 0 0) ≡ record { state = shape (begun_at hs k) 0 (suc k) 0 (reads (suc k)) [] []; answer = Calls.taken 0 }
opens_more B hs k h =
    let s : State = shape hs 0 k 0 (reads k) [] [] in
    let p : ltb 511 k ≡ false = le-ltb 511 k (omega arith) in
    let q : find (λ (e : Epoch). eqb e.place k) (reads k) ≡ None = not_open k k (omega arith) in
    let r : leb 32 (length (reads k)) ≡ false = lt-leb 32 (length (reads k)) (subst (λ n. n < 32) (sym (reads_count k)) h) in
    let t : leb 1000000 k ≡ false = lt-leb 1000000 k (omega arith) in
    (λ i. answered B s (begin 0 0 k 0 0) (cond (p i) (Some UnknownPlace) (cond (is_some (q i)) (Some AlreadyBegun) (cond (r i) (Some (Over limit.Open)) (cond (t i) (Some (Over limit.Begins)) None)))))
    ∙ (λ i. record { state = shape (begun_at hs k) 0 (add-one k i) 0 (reads (suc k)) [] []; answer = Calls.taken 0 })

pub opens_no_more : (B : Precedes) (hs : List Home) (k : ℕ) → k ≡ 32 → (step B (shape hs 0 k 0 (reads k) [] []) (begin 0 0 k 0 0)).answer ≡ Calls.refused (Over limit.Open)
opens_no_more B hs k h =
    let s : State = shape hs 0 k 0 (reads k) [] [] in
    let p : ltb 511 k ≡ false = le-ltb 511 k (omega arith) in
    let q : find (λ (e : Epoch). eqb e.place k) (reads k) ≡ None = not_open k k (omega arith) in
    let r : leb 32 (length (reads k)) ≡ true = le-leb 32 (length (reads k)) (subst (λ n. 32 ≤ n) (sym (reads_count k)) (omega arith)) in
    λ i. (answered B s (begin 0 0 k 0 0) (cond (p i) (Some UnknownPlace) (cond (is_some (q i)) (Some AlreadyBegun) (cond (r i) (Some (Over limit.Open)) (cond (leb 1000000 k) (Some (Over limit.Begins)) None))))).answer

-- n more epochs open, and then none.
pub open_run : (B : Precedes) (n k : ℕ) (hs : List Home) (s : State) → s ≡ shape hs 0 k 0 (reads k) [] [] → k + n ≡ 32 → told B s (opening k (suc n)) ≡ replicate n (taken 0) ++ (refused 12 3 ∷ [])
open_run B zero k hs s e h =
    ap (λ s. told B s (begin 0 0 k 0 0 ∷ [])) e
    ∙ told_last B (shape hs 0 k 0 (reads k) [] []) (begin 0 0 k 0 0) (Calls.refused (Over limit.Open)) (opens_no_more B hs k (sym (add-zero k) ∙ h))
open_run B (suc n) k hs s e h =
    let s' : State = shape (begun_at hs k) 0 (suc k) 0 (reads (suc k)) [] [] in
    told_first B s s' (begin 0 0 k 0 0) (Calls.taken 0) (opening (suc k) (suc n)) (ap (λ s. step B s (begin 0 0 k 0 0)) e ∙ opens_more B hs k (omega arith))
    ∙ ap (λ xs. taken 0 ∷ xs) (open_run B n (suc k) (begun_at hs k) s' refl (omega arith))

-- The ended read of place 3 from k on, and k such from n on.
abbrev pub span : ℕ → Ended
span k = ended_row k 0 (opened 0 3 0 k) 0 (suc k)

abbrev pub spans : ℕ → ℕ → List Ended
spans n zero = []
spans n (suc k) = span n ∷ spans (suc n) k

pub spans_count : (n k : ℕ) → length (spans n k) ≡ k
spans_count n zero = refl
spans_count n (suc k) = ap suc (spans_count (suc n) k)

pub pushed : (n k m : ℕ) → n + k ≡ m → spans n k ++ (span m ∷ []) ≡ spans n (suc k)
pushed n zero m h = ap (λ x. span x ∷ []) (sym h ∙ add-zero n)
pushed n (suc k) m h = ap (λ xs. span n ∷ xs) (pushed (suc n) k m (omega arith))

-- What begins later stands later, whatever else the rows hold.
pub later : (m n : ℕ) (rest : Bool) → n < m → in_turn leb m n rest ≡ false
later m n rest h = ap (λ b. cond b (cond (leb n m) rest true) false) (lt-leb m n h)

pub inserted : (n k m : ℕ) → n + k ≡ m → insert (span m) (spans n k) ≡ spans n (suc k)
inserted n zero m h = ap (λ x. span x ∷ []) (sym h ∙ add-zero n)
inserted n (suc k) m h =
    let p : ended_le (span m) (span n) ≡ false = later m n _ (omega arith) in
    ap (λ b. cond b (span m ∷ span n ∷ spans (suc n) k) (span n ∷ insert (span m) (spans (suc n) k))) p
    ∙ ap (λ xs. span n ∷ xs) (inserted (suc n) k m (omega arith))

-- A begin of place 3 at the clock.
pub begins_here : (B : Precedes) (hs : List Home) (k : ℕ) (o w : List Ended) → k < 1000000 → step B (shape hs k k k [] o w) (begin 0 0 3 0 k) ≡ record { state = shape (begun_at hs 3) k (suc k) k (opened 0 3 0 k ∷ []) o w; answer = Calls.taken 0 }
begins_here B hs k o w h =
    let s : State = shape hs k k k [] o w in
    let p : ltb k k ≡ false = le-ltb k k (omega arith) in
    let q : leb 1000000 k ≡ false = lt-leb 1000000 k h in
    (λ i. answered B s (begin 0 0 3 0 k) (cond (p i) (Some PastTime) (cond (q i) (Some (Over limit.Begins)) None)))
    ∙ (λ i. record { state = shape (begun_at hs 3) k (add-one k i) k (opened 0 3 0 k ∷ []) o w; answer = Calls.taken 0 })

-- The conviction of an end at its begin, which is not met.
abbrev pub early : ℕ → Conviction
early k = record { law = EndTooEarly; thread = 0; number = 3; other = k }

-- Its end one later, where not too many are owed.
pub ends_here : (B : Precedes) (hs : List Home) (k : ℕ) (o w : List Ended) → length o < 32 → step B (shape hs k (suc k) k (opened 0 3 0 k ∷ []) o w) (end 0 3 0 (suc k)) ≡ record { state = shape hs (suc k) (suc k) (suc k) [] (o ++ (span k ∷ [])) w; answer = Calls.taken k }
ends_here B hs k o w h =
    let s : State = shape hs k (suc k) k (opened 0 3 0 k ∷ []) o w in
    let p : ltb (suc k) k ≡ false = le-ltb (suc k) k (omega arith) in
    let q : leb 32 (length o) ≡ false = lt-leb 32 (length o) h in
    let r : ltb k (suc k) ≡ true = lt-ltb k (suc k) (omega arith) in
    (λ i. answered B s (end 0 3 0 (suc k)) (cond (p i) (Some PastTime) (cond (q i) (Some (Over limit.Owed)) None)))
    ∙ (λ i. Effect.ending s 0 (opened 0 3 0 k) 0 (suc k) (elim (cond (r i) None (Some (early k))) [ None ↦ None | Some x ↦ Some x ]))
    ∙ (λ i. record { state = shape hs (suc k) (suc k) (add-one k i) [] (o ++ (span k ∷ [])) w; answer = Calls.taken k })

pub ends_no_more : (B : Precedes) (hs : List Home) (k : ℕ) (o w : List Ended) → length o ≡ 32 → (step B (shape hs k (suc k) k (opened 0 3 0 k ∷ []) o w) (end 0 3 0 (suc k))).answer ≡ Calls.refused (Over limit.Owed)
ends_no_more B hs k o w h =
    let s : State = shape hs k (suc k) k (opened 0 3 0 k ∷ []) o w in
    let p : ltb (suc k) k ≡ false = le-ltb (suc k) k (omega arith) in
    let q : leb 32 (length o) ≡ true = le-leb 32 (length o) (omega arith) in
    λ i. (answered B s (end 0 3 0 (suc k)) (cond (p i) (Some PastTime) (cond (q i) (Some (Over limit.Owed)) None))).answer

-- n more notices are owed, and then none.
pub owed_run : (B : Precedes) (n k : ℕ) (hs : List Home) (s : State) → s ≡ shape hs k k k [] (spans 0 k) [] → k + n ≡ 32 → told B s (Runs.ending k (suc n)) ≡ ends_taken k n ++ (taken 0 ∷ refused 12 5 ∷ [])
owed_run B zero k hs s e h =
    let s₁ : State = shape hs k k k [] (spans 0 k) [] in
    let s₂ : State = shape (begun_at hs 3) k (suc k) k (opened 0 3 0 k ∷ []) (spans 0 k) [] in
    ap (λ s. told B s (begin 0 0 3 0 k ∷ end 0 3 0 (suc k) ∷ [])) e
    ∙ told_first B s₁ s₂ (begin 0 0 3 0 k) (Calls.taken 0) (end 0 3 0 (suc k) ∷ []) (begins_here B hs k (spans 0 k) [] (omega arith))
    ∙ ap (λ xs. taken 0 ∷ xs) (told_last B s₂ (end 0 3 0 (suc k)) (Calls.refused (Over limit.Owed)) (ends_no_more B (begun_at hs 3) k (spans 0 k) [] (spans_count 0 k ∙ sym (add-zero k) ∙ h)))
owed_run B (suc n) k hs s e h =
    let s₁ : State = shape hs k k k [] (spans 0 k) [] in
    let s₂ : State = shape (begun_at hs 3) k (suc k) k (opened 0 3 0 k ∷ []) (spans 0 k) [] in
    let s₃ : State = shape (begun_at hs 3) (suc k) (suc k) (suc k) [] (spans 0 k ++ (span k ∷ [])) [] in
    let l : length (spans 0 k) < 32 = subst (λ x. x < 32) (sym (spans_count 0 k)) (omega arith) in
    ap (λ s. told B s (Runs.ending k (suc (suc n)))) e
    ∙ told_first B s₁ s₂ (begin 0 0 3 0 k) (Calls.taken 0) (end 0 3 0 (suc k) ∷ Runs.ending (suc k) (suc n)) (begins_here B hs k (spans 0 k) [] (omega arith))
    ∙ ap (λ xs. taken 0 ∷ xs) (told_first B s₂ s₃ (end 0 3 0 (suc k)) (Calls.taken k) (Runs.ending (suc k) (suc n)) (ends_here B (begun_at hs 3) k (spans 0 k) [] l))
    ∙ ap (λ xs. taken 0 ∷ taken k ∷ xs) (owed_run B n (suc k) (begun_at hs 3) s₃ (ap (λ o. shape (begun_at hs 3) (suc k) (suc k) (suc k) [] o []) (pushed 0 k k (omega arith))) (omega arith))

-- A report of the one that is owed, where not too many are waiting.
pub reports_here : (B : Precedes) (hs : List Home) (τ b e k : ℕ) (w : List Ended) → length w < 128 → step B (shape hs τ b e [] (span k ∷ []) w) (report k) ≡ record { state = shape hs τ b e [] [] (insert (span k) w); answer = Calls.taken 0 }
reports_here B hs τ b e k w h =
    let s : State = shape hs τ b e [] (span k ∷ []) w in
    let p : eqb k k ≡ true = eq-eqb k k refl in
    let q : leb 128 (length w) ≡ false = lt-leb 128 (length w) h in
    (λ i. answered B s (report k) (cond (not (is_some (cond (p i) (Some (span k)) None))) (Some NotOwed) (cond (q i) (Some (Over limit.Waiting)) None)))
    ∙ (λ i. Effect.report_found s k (cond (p i) (Some (span k)) None))
    ∙ (λ i. record { state = shape hs τ b e [] (cond (not (p i)) (span k ∷ []) []) (insert (span k) w); answer = Calls.taken 0 })

pub reports_no_more : (B : Precedes) (hs : List Home) (τ b e k : ℕ) (w : List Ended) → length w ≡ 128 → (step B (shape hs τ b e [] (span k ∷ []) w) (report k)).answer ≡ Calls.refused (Over limit.Waiting)
reports_no_more B hs τ b e k w h =
    let s : State = shape hs τ b e [] (span k ∷ []) w in
    let p : eqb k k ≡ true = eq-eqb k k refl in
    let q : leb 128 (length w) ≡ true = le-leb 128 (length w) (omega arith) in
    λ i. (answered B s (report k) (cond (not (is_some (cond (p i) (Some (span k)) None))) (Some NotOwed) (cond (q i) (Some (Over limit.Waiting)) None))).answer

-- A begin and an end of place 3, with others waiting.
pub told_span : (B : Precedes) (hs : List Home) (k : ℕ) (w : List Ended) (cs : List Call) → k < 1000000 → told B (shape hs k k k [] [] w) (begin 0 0 3 0 k ∷ end 0 3 0 (suc k) ∷ cs) ≡ taken 0 ∷ taken k ∷ told B (shape (begun_at hs 3) (suc k) (suc k) (suc k) [] (span k ∷ []) w) cs
told_span B hs k w cs h =
    let s₂ : State = shape (begun_at hs 3) k (suc k) k (opened 0 3 0 k ∷ []) [] w in
    told_first B (shape hs k k k [] [] w) s₂ (begin 0 0 3 0 k) (Calls.taken 0) (end 0 3 0 (suc k) ∷ cs) (begins_here B hs k [] w h)
    ∙ ap (λ xs. taken 0 ∷ xs) (told_first B s₂ (shape (begun_at hs 3) (suc k) (suc k) (suc k) [] (span k ∷ []) w) (end 0 3 0 (suc k)) (Calls.taken k) cs (ends_here B (begun_at hs 3) k [] w (omega arith)))

-- n more notices are waiting, and then none.
pub waiting_run : (B : Precedes) (n k : ℕ) (hs : List Home) (s : State) → s ≡ shape hs k k k [] [] (spans 0 k) → k + n ≡ 128 → told B s (reporting k (suc n)) ≡ reports_taken k n ++ (taken 0 ∷ taken 128 ∷ refused 12 6 ∷ [])
waiting_run B zero k hs s e h =
    let m : k ≡ 128 = sym (add-zero k) ∙ h in
    let s₃ : State = shape (begun_at hs 3) (suc k) (suc k) (suc k) [] (span k ∷ []) (spans 0 k) in
    ap (λ s. told B s (reporting k 1)) e
    ∙ told_span B hs k (spans 0 k) (report k ∷ []) (omega arith)
    ∙ ap (λ xs. taken 0 ∷ taken k ∷ xs) (told_last B s₃ (report k) (Calls.refused (Over limit.Waiting)) (reports_no_more B (begun_at hs 3) (suc k) (suc k) (suc k) k (spans 0 k) (spans_count 0 k ∙ m)))
    ∙ ap (λ x. taken 0 ∷ taken x ∷ refused 12 6 ∷ []) m
waiting_run B (suc n) k hs s e h =
    let s₃ : State = shape (begun_at hs 3) (suc k) (suc k) (suc k) [] (span k ∷ []) (spans 0 k) in
    let s₄ : State = shape (begun_at hs 3) (suc k) (suc k) (suc k) [] [] (insert (span k) (spans 0 k)) in
    let l : length (spans 0 k) < 128 = subst (λ x. x < 128) (sym (spans_count 0 k)) (omega arith) in
    ap (λ s. told B s (reporting k (suc (suc n)))) e
    ∙ told_span B hs k (spans 0 k) (report k ∷ reporting (suc k) (suc n)) (omega arith)
    ∙ ap (λ xs. taken 0 ∷ taken k ∷ xs) (told_first B s₃ s₄ (report k) (Calls.taken 0) (reporting (suc k) (suc n)) (reports_here B (begun_at hs 3) (suc k) (suc k) (suc k) k (spans 0 k) l))
    ∙ ap (λ xs. taken 0 ∷ taken k ∷ taken 0 ∷ xs) (waiting_run B n (suc k) (begun_at hs 3) s₄ (ap (λ w. shape (begun_at hs 3) (suc k) (suc k) (suc k) [] [] w) (inserted 0 k k (omega arith))) (omega arith))
