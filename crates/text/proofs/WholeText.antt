-- Reading and writing a whole text are each other's inverse. Assumes nothing.
use Rattle.std.proofs.Common.{◌≡◌, ℕ, ◌+◌, ◌^◌, ◌<◌, true, false, cond, eqb, ltb, List, [], ◌∷◌, ◌++◌, length, Ok, Err, codes, Result, sym, refl, ap, ◌∙◌, inl, inr, arith}
use Rattle.std.specs.List.{join_with_byte}
use Rattle.std.specs.Str.{bytes_eq}
use Rattle.std.proofs.lemmas.Bool.{cond-true, cond-false, cases_Bool, le-ltb, eqb-true}
use Rattle.std.proofs.lemmas.Slice.Eq.{bytes_eq-Decides}
use Rattle.event.specs.declared.event.Event.{Event}
use Rattle.text.specs.declared.fault.Fault.{Fault}
use Rattle.line.specs.declared.fault.Garbled.{Garbled}
use Rattle.line.specs.declared.fault.Garbled.TheVariants.{LineLength, Heading, End}
use Rattle.setup.specs.declared.setup.Setup.{Setup}
use Rattle.setup.specs.Setups.{read_setup, setup_line}
use Rattle.fields.specs.Splits.{split}
use Rattle.fields.specs.Steps.{◌then◌}
use Rattle.event.specs.Events.{row_of}
use Rattle.line.specs.Lines.{line_of, read, Fit}
use Rattle.text.specs.Texts.{line, later, heading, setup, event_at, over, closes, Reading, done, fault, sets, tells, closed, told, events, onward, from_names}
use Rattle.text.specs.Wholes.{lines_of, text_of, telling, Closed, TextBack, OneText}
use Rattle.setup.proofs.SetupLine.{setup_back, one_setup, length_setup, feedless_setup}
use Rattle.std.proofs.lemmas.List.Splits.{join_with_byte-slice_split}
use Rattle.fields.proofs.Splitting.{split_front, split_some}
use Rattle.fields.proofs.Lacking.{lacks_from_without}
use Rattle.fields.proofs.Stepping.{then_ok}
use Rattle.text.proofs.Feedless.{feedless_event}
use Rattle.line.proofs.Bounds.{longest_line}
use Rattle.line.proofs.RoundTrip.{reads_back, one_line}
use Rattle.text.proofs.Passing.{line_short, heading_same, events_step}

-- written, then read

split_lines : (e : Event) (es : List Event) → Fit (row_of e) → split 10 (lines_of (e ∷ es)) ≡ line_of e ∷ split 10 (lines_of es)
split_lines e es fit = split_front 10 (line_of e) (lines_of es) (feedless_event e fit)

line_first : (e : Event) (bs : List ℕ) → Fit (row_of e) → line (line_of e ∷ split 10 bs) ≡ Ok (line_of e)
line_first e bs fit = line_short (line_of e) (split 10 bs) (split_some 10 bs) (omega (arith, longest_line e fit))

event_first : (e : Event) (bs : List ℕ) → Fit (row_of e) → event_at (line_of e ∷ split 10 bs) ≡ Ok e
event_first e bs fit = ap (λ r. r then read) (line_first e bs fit) ∙ reads_back e fit

-- the first event, and what is told after it
events_first : (k : ℕ) (e : Event) (es : List Event) → Fit (row_of e) → events k (split 10 (lines_of (e ∷ es))) ≡ tells (k + 1) e (cond (closes e) (closed (k + 1) (split 10 (lines_of es))) (events (k + 1) (split 10 (lines_of es))))
events_first k e es fit =
    ap (events k) (split_lines e es fit) ∙ ap (λ r. told (k + 1) r (closed (k + 1) (split 10 (lines_of es))) (events (k + 1) (split 10 (lines_of es)))) (event_first e (lines_of es) fit)

events_told : (k : ℕ) (es : List Event) → Closed es → events k (split 10 (lines_of es)) ≡ telling (k + 1) es
events_told k [] h = absurd h
events_told k (e ∷ []) h = events_first k e [] h.0 ∙ ap (tells (k + 1) e) (cond-true _ _ _ h.1)
events_told k (e ∷ f ∷ es) h = events_first k e (f ∷ es) h.0.0 ∙ ap (tells (k + 1) e) (cond-false _ _ _ h.0.1 ∙ events_told (k + 1) (f ∷ es) h.1)

setup_read : (s : Setup) (bs : List ℕ) → s.threads < 2 ^ 64 → setup (setup_line s ∷ split 10 bs) ≡ Ok s
setup_read s bs small = ap (λ r. r then read_setup) (line_short (setup_line s) (split 10 bs) (split_some 10 bs) (length_setup s small)) ∙ setup_back s small

pub text_back : TextBack
text_back s es small h short =
    let names = codes "event thread what place value time" in
    let c : List ℕ = names ++ (10 ∷ lines_of es) in
    let b : List ℕ = setup_line s ++ (10 ∷ c) in
    let third : split 10 c ≡ names ∷ split 10 (lines_of es) = split_front 10 names (lines_of es) (lacks_from_without 10 names refl) in
    let second : split 10 b ≡ setup_line s ∷ split 10 c = split_front 10 (setup_line s) c (feedless_setup s small) in
    let first : split 10 (text_of s es) ≡ codes "rule threads" ∷ split 10 b = split_front 10 (codes "rule threads") b (lacks_from_without 10 (codes "rule threads") refl) in
    let head : heading (codes "rule threads") (codes "rule threads" ∷ split 10 b) ≡ Ok tt = heading_same (codes "rule threads") (codes "rule threads") (codes "rule threads" ∷ split 10 b) (line_short (codes "rule threads") (split 10 b) (split_some 10 b) (omega arith)) refl in
    let set : setup (split 10 b) ≡ Ok s = ap setup second ∙ setup_read s c small in
    let name : heading names (split 10 c) ≡ Ok tt = ap (heading names) third ∙ heading_same names names (names ∷ split 10 (lines_of es)) (line_short names (split 10 (lines_of es)) (split_some 10 (lines_of es)) (omega arith)) refl in
    let rest : from_names 2 (split 10 c) ≡ telling 4 es = ap (λ r. onward 3 r (λ _. events 3 (later (split 10 c)))) name ∙ ap (λ ls. events 3 (later ls)) third ∙ events_told 3 es h in
    cond-false _ _ _ (le-ltb 65536 (length (text_of s es)) short)
    ∙ ap (λ ls. onward 1 (heading (codes "rule threads") ls) (λ _. onward 2 (setup (later ls)) (λ t. sets t (from_names 2 (later (later ls)))))) first
    ∙ ap (λ r. onward 1 r (λ _. onward 2 (setup (split 10 b)) (λ t. sets t (from_names 2 (later (split 10 b)))))) head
    ∙ ap (λ r. onward 2 r (λ t. sets t (from_names 2 (later (split 10 b))))) set
    ∙ ap (λ ls. sets s (from_names 2 (later ls))) second
    ∙ ap (sets s) rest

-- read, then written

-- a line that was read, and the lines after it
record Led (l : List ℕ) (ls : List (List ℕ)) : Type 0 where
  some : 0 < length (later ls)
  first : ls ≡ l ∷ later ls

led_from_line : (l : List ℕ) (ls : List (List ℕ)) → line ls ≡ Ok l → Led l ls
led_from_line l [] e = let z : ◌≡◌ {A = ℕ} 0 1 = cc in absurd (omega arith)
led_from_line l (m ∷ []) e =
    elim (cases_Bool (eqb (length m) 0)) [
      | inl t ↦ (let f : line (m ∷ []) ≡ Err End = cond-true _ _ _ t in let z : ◌≡◌ {A = ℕ} 0 1 = cc in absurd (omega arith))
      | inr t ↦ (let f : line (m ∷ []) ≡ Err LineLength = cond-false _ _ _ t in let z : ◌≡◌ {A = ℕ} 0 1 = cc in absurd (omega arith))
    ]
led_from_line l (m ∷ n ∷ ls) e =
    elim (cases_Bool (ltb (length m) 112)) [
      | inl t ↦ (let f : line (m ∷ n ∷ ls) ≡ Ok m = cond-true _ _ _ t in let same : m ≡ l = cc in record { some = omega arith; first = ap (λ x. x ∷ n ∷ ls) same })
      | inr t ↦ (let f : line (m ∷ n ∷ ls) ≡ Err LineLength = cond-false _ _ _ t in let z : ◌≡◌ {A = ℕ} 0 1 = cc in absurd (omega arith))
    ]

rejoined_more : (l : List ℕ) (ls : List (List ℕ)) → 0 < length ls → join_with_byte 10 (l ∷ ls) ≡ l ++ (10 ∷ join_with_byte 10 ls)
rejoined_more l [] some = absurd (omega arith)
rejoined_more l (m ∷ ls) some = refl

rejoined_led : (l : List ℕ) (ls : List (List ℕ)) → Led l ls → join_with_byte 10 ls ≡ l ++ (10 ∷ join_with_byte 10 (later ls))
rejoined_led l ls h = ap (join_with_byte 10) h.first ∙ rejoined_more l (later ls) h.some

line_from_heading : (t : List ℕ) (ls : List (List ℕ)) → heading t ls ≡ Ok tt → line ls ≡ Ok t
line_from_heading t ls e =
    let p = then_ok (line ls) (λ l. cond (bytes_eq l t) (Ok tt) (Err Heading)) tt e in
    elim (cases_Bool (bytes_eq p.0 t)) [
      | inl h ↦ (p.1.0 ∙ ap (λ l. Ok l) ((bytes_eq-Decides p.0 t).0 h))
      | inr h ↦ (
          let q : ◌≡◌ {A = Result (Unit {0}) Garbled} (cond (bytes_eq p.0 t) (Ok tt) (Err Heading)) (Err Heading) = cond-false _ _ _ h in
          let r = p.1.1 in
          let z : ◌≡◌ {A = ℕ} 0 1 = cc in
          absurd (omega arith))
    ]

line_from_setup : (s : Setup) (ls : List (List ℕ)) → setup ls ≡ Ok s → line ls ≡ Ok (setup_line s)
line_from_setup s ls e =
    let p = then_ok (line ls) read_setup s e in
    p.1.0 ∙ ap (λ x. Ok x) (sym (one_setup p.0 s p.1.1))

-- nothing is left after the text
rejoined_over : (ls : List (List ℕ)) → over ls ≡ true → join_with_byte 10 ls ≡ []
rejoined_over [] e = refl
rejoined_over ([] ∷ []) e = refl
rejoined_over ((c ∷ cs) ∷ []) e = absurd (omega (arith, eqb-true (length (c ∷ cs)) 0 e))
rejoined_over (l ∷ m ∷ ls) e = let z : ◌≡◌ {A = ℕ} 0 1 = cc in absurd (omega arith)

done_telling : (k : ℕ) (es : List Event) → done ≡ telling k es → es ≡ []
done_telling k [] e = refl
done_telling k (f ∷ es) e = let z : ◌≡◌ {A = ℕ} 0 1 = cc in absurd (omega arith)

fault_telling : (k : ℕ) (f : Fault) (es : List Event) → fault f ≡ telling k es → ⊥
fault_telling k f [] e = let z : ◌≡◌ {A = ℕ} 0 1 = cc in omega arith
fault_telling k f (x ∷ es) e = let z : ◌≡◌ {A = ℕ} 0 1 = cc in omega arith

closed_telling : (k j : ℕ) (ls : List (List ℕ)) (es : List Event) → closed k ls ≡ telling j es → join_with_byte 10 ls ≡ lines_of es
closed_telling k j ls es e =
    elim (cases_Bool (over ls)) [
      | inl t ↦ (rejoined_over ls t ∙ sym (ap lines_of (done_telling j es (sym (cond-true _ _ _ t) ∙ e))))
      | inr t ↦ absurd (fault_telling j _ es (sym (cond-false _ _ _ t) ∙ e))
    ]

-- a step that told an event
told_event : (k : ℕ) (r : Result Event Garbled) (a b : Reading) (j : ℕ) (e : Event) (t : Reading) → told k r a b ≡ tells j e t → (r ≡ Ok e) × (cond (closes e) a b ≡ t)
told_event k (Ok x) a b j e t h =
    let same : x ≡ e = cc in
    let rest : cond (closes x) a b ≡ t = cc in
    (ap (λ y. Ok y) same, ap (λ y. cond (closes y) a b) (sym same) ∙ rest)
told_event k (Err g) a b j e t h = let z : ◌≡◌ {A = ℕ} 0 1 = cc in absurd (omega arith)

told_done : (k : ℕ) (r : Result Event Garbled) (a b : Reading) → told k r a b ≡ done → ⊥
told_done k (Ok x) a b h = let z : ◌≡◌ {A = ℕ} 0 1 = cc in omega arith
told_done k (Err g) a b h = let z : ◌≡◌ {A = ℕ} 0 1 = cc in omega arith

events_lines : (k j : ℕ) (ls : List (List ℕ)) (es : List Event) → events k ls ≡ telling j es → join_with_byte 10 ls ≡ lines_of es
events_lines k j ls [] h = absurd (told_done (k + 1) (event_at ls) _ _ (sym (events_step k ls) ∙ h))
events_lines k j ls (e ∷ es) h =
    let p = told_event (k + 1) (event_at ls) (closed (k + 1) (later ls)) (events (k + 1) (later ls)) j e (telling (j + 1) es) (sym (events_step k ls) ∙ h) in
    let q = then_ok (line ls) read e p.0 in
    let is : line_of e ≡ q.0 = (one_line q.0 e q.1.1).0 in
    let after : join_with_byte 10 (later ls) ≡ lines_of es = elim (cases_Bool (closes e)) [
      | inl t ↦ closed_telling (k + 1) (j + 1) (later ls) es (sym (cond-true _ _ _ t) ∙ p.1)
      | inr t ↦ events_lines (k + 1) (j + 1) (later ls) es (sym (cond-false _ _ _ t) ∙ p.1)
    ] in
    rejoined_led q.0 ls (led_from_line q.0 ls q.1.0) ∙ (λ i. sym is i ++ (10 ∷ after i))

onward_ok : {A : Type 0} (k : ℕ) (r : Result A Garbled) (f : A → Reading) (t : Reading) → onward k r f ≡ t → ((g : Fault) → fault g ≡ t → ⊥) → (x : A) × ((r ≡ Ok x) × (f x ≡ t))
onward_ok k (Ok x) f t e no_fault = (x, (refl, e))
onward_ok k (Err g) f t e no_fault = absurd (no_fault _ e)

fault_sets : (s : Setup) (t : Reading) (f : Fault) → fault f ≡ sets s t → ⊥
fault_sets s t f e = let z : ◌≡◌ {A = ℕ} 0 1 = cc in omega arith

sets_setup : (u s : Setup) (a t : Reading) → sets u a ≡ sets s t → u ≡ s
sets_setup u s a t e = cc

sets_rest : (u s : Setup) (a t : Reading) → sets u a ≡ sets s t → a ≡ t
sets_rest u s a t e = cc

pub one_text : OneText
one_text bs s es h =
    let top = codes "rule threads" in
    let names = codes "event thread what place value time" in
    let t = telling 4 es in
    let ls = split 10 bs in
    let short : ltb 65536 (length bs) ≡ false = elim (cases_Bool (ltb 65536 (length bs))) [
      | inl long ↦ absurd (fault_sets s t _ (sym (cond-true _ _ _ long) ∙ h))
      | inr e ↦ e
    ] in
    let a = onward_ok 1 (heading top ls) (λ _. onward 2 (setup (later ls)) (λ u. sets u (from_names 2 (later (later ls))))) (sets s t) (sym (cond-false _ _ _ short) ∙ h) (fault_sets s t) in
    let b = onward_ok 2 (setup (later ls)) (λ u. sets u (from_names 2 (later (later ls)))) (sets s t) a.1.1 (fault_sets s t) in
    let same : b.0 ≡ s = sets_setup b.0 s _ t b.1.1 in
    let c = onward_ok 3 (heading names (later (later ls))) (λ _. events 3 (later (later (later ls)))) t (sets_rest b.0 s _ t b.1.1) (λ f. fault_telling 4 f es) in
    let first = rejoined_led top ls (led_from_line top ls (line_from_heading top ls a.1.0)) in
    let second = rejoined_led (setup_line s) (later ls) (led_from_line (setup_line s) (later ls) (line_from_setup s (later ls) (b.1.0 ∙ ap (λ x. Ok x) same))) in
    let third = rejoined_led names (later (later ls)) (led_from_line names (later (later ls)) (line_from_heading names (later (later ls)) c.1.0)) in
    let last = events_lines 3 4 (later (later (later ls))) es c.1.1 in
    let whole : bs ≡ text_of s es = sym (join_with_byte-slice_split 10 bs) ∙ first ∙ ap (λ x. top ++ (10 ∷ x)) (second ∙ ap (λ x. setup_line s ++ (10 ∷ x)) (third ∙ ap (λ x. names ++ (10 ∷ x)) last)) in
    sym whole
