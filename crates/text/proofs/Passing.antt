-- What a reader passes over, and what it has still to tell. Assumes nothing.
use Rattle.std.proofs.Common.{◌≡◌, ℕ, ◌+◌, ◌<◌, ◌≤◌, true, false, eqb, List, [], ◌∷◌, length, Ok, Err, codes, Result, sym, refl, ap, ◌∙◌, inl, inr, arith}
use Rattle.std.proofs.lemmas.Bool.{cond-true, cond-false, cond_both, cases_Bool, lt-ltb, le-ltb, ne_eqb}
use Rattle.std.proofs.lemmas.Slice.Eq.{bytes_eq-Decides}
use Rattle.std.specs.Str.{bytes_eq}
use Rattle.line.specs.declared.fault.Garbled.{Garbled}
use Rattle.line.specs.declared.fault.Garbled.TheVariants.{LineLength, Heading, End}
use Rattle.text.specs.declared.fault.Fault.{Fault}
use Rattle.text.specs.declared.reader.Reader.{Reader}
use Rattle.setup.specs.declared.setup.Setup.{Setup}
use Rattle.std.specs.List.{onto_first}
use Rattle.fields.specs.Splits.{split}
use Rattle.text.specs.Texts.{line, later, heading, setup, Passed, over, closed, told, event_at, events, fault, sets, onward, from_names, from_start}
use Rattle.text.specs.Readers.{Moved, MovedTo, AfterSetup, start, located}
use Rattle.fields.proofs.Splitting.{split_some}

pub line_short : (l : List ℕ) (ls : List (List ℕ)) → 0 < length ls → length l < 112 → line (l ∷ ls) ≡ Ok l
line_short l [] some short = absurd (omega arith)
line_short l (m ∷ ls) some short = cond-true _ _ _ (lt-ltb _ _ short)

-- a text that is over lacks its next line
pub line_none : (bs : List ℕ) → length bs ≡ 0 → line (split 10 bs) ≡ Err End
line_none [] e = refl
line_none (c ∷ cs) e = absurd (omega arith)

-- a line that no line feed ends
pub line_unended : (bs : List ℕ) → split 10 bs ≡ bs ∷ [] → (length bs ≡ 0 → ⊥) → line (split 10 bs) ≡ Err LineLength
line_unended bs e some = ap line e ∙ cond-false _ _ _ (ne_eqb (length bs) 0 some)

-- a line that a cut gave
pub line_cut : (bs l rest : List ℕ) → split 10 bs ≡ l ∷ split 10 rest → length l < 112 → line (split 10 bs) ≡ Ok l
line_cut bs l rest e short = ap line e ∙ line_short l (split 10 rest) (split_some 10 rest) short

pub passed_cut : (bs l rest : List ℕ) → split 10 bs ≡ l ∷ split 10 rest → length rest < length bs → Passed bs rest
passed_cut bs l rest e h = record { lines = sym (ap later e); less = h }

-- the next line, compared with the one that is expected
pub heading_same : (t l : List ℕ) (ls : List (List ℕ)) → line ls ≡ Ok l → l ≡ t → heading t ls ≡ Ok tt
heading_same t l ls e same = rw e (cond-true _ _ _ ((bytes_eq-Decides l t).1 same))

pub heading_other : (t l : List ℕ) (ls : List (List ℕ)) → line ls ≡ Ok l → (l ≡ t → ⊥) → heading t ls ≡ Err Heading
heading_other t l ls e other =
    rw e (elim (cases_Bool (bytes_eq l t)) [
      | inl h ↦ absurd (other ((bytes_eq-Decides l t).0 h))
      | inr h ↦ cond-false _ _ _ h
    ])

-- a text is over just where it is empty
over_more : (l : List ℕ) (ls : List (List ℕ)) → 0 < length ls → over (l ∷ ls) ≡ false
over_more l [] some = absurd (omega arith)
over_more l (m ∷ ls) some = refl

over_onto : (c : ℕ) (fs : List (List ℕ)) → over (onto_first c fs) ≡ false
over_onto c [] = refl
over_onto c (f ∷ []) = ne_eqb (length (c ∷ f)) 0 (λ e. omega arith)
over_onto c (f ∷ g ∷ fs) = refl

pub over_none : (bs : List ℕ) → length bs ≡ 0 → over (split 10 bs) ≡ true
over_none [] e = refl
over_none (c ∷ cs) e = absurd (omega arith)

pub over_some : (bs : List ℕ) → (length bs ≡ 0 → ⊥) → over (split 10 bs) ≡ false
over_some [] h = absurd (h refl)
over_some (c ∷ cs) h =
    cond_both (eqb c 10) ([] ∷ split 10 cs) (onto_first c (split 10 cs)) (λ fs. over fs ≡ false)
    (λ e. over_more [] (split 10 cs) (split_some 10 cs))
    (λ e. over_onto c (split 10 cs))

-- one event more
pub events_step : (k : ℕ) (ls : List (List ℕ)) → events k ls ≡ told (k + 1) (event_at ls) (closed (k + 1) (later ls)) (events (k + 1) (later ls))
events_step k [] = refl
events_step k (l ∷ ls) = refl

-- what a fault with its line was before
pub located_ok : {A : Type 0} (k : ℕ) (r : Result A Garbled) (x : A) → Ok x ≡ located k r → r ≡ Ok x
located_ok k (Ok y) x e = let same : x ≡ y = cc in ap (λ z. Ok z) (sym same)
located_ok k (Err g) x e = let z : ◌≡◌ {A = ℕ} 0 1 = cc in absurd (omega arith)

pub located_err : {A : Type 0} (k : ℕ) (r : Result A Garbled) (f : Fault) → Err f ≡ located k r → (r ≡ Err f.what) × (f.line ≡ k)
located_err k (Ok y) f e = let z : ◌≡◌ {A = ℕ} 0 1 = cc in absurd (omega arith)
located_err k (Err g) f e =
    let made : Fault = record { line = k; what = g } in
    let same : f ≡ made = cc in
    (ap (λ h. Err h.what) (sym same), ap (λ h. h.line) same)

-- after the first line
pub after_heading : (k : ℕ) (bs : List ℕ) → length bs ≤ 65536 → heading (codes "rule threads") (split 10 bs) ≡ Ok tt → from_start k bs ≡ onward (k + 1 + 1) (setup (later (split 10 bs))) (λ s. sets s (from_names (k + 1 + 1) (later (later (split 10 bs)))))
after_heading k bs short e = cond-false _ _ _ (le-ltb 65536 (length bs) short) ∙ ap (λ h. onward (k + 1) h (λ _. onward (k + 1 + 1) (setup (later (split 10 bs))) (λ s. sets s (from_names (k + 1 + 1) (later (later (split 10 bs))))))) e

-- after the second
pub after_setup : (b m : Reader) (rest : List ℕ) (s : Setup) → length b.rest.now ≤ 65536 → heading (codes "rule threads") (split 10 b.rest.now) ≡ Ok tt → Moved b m → setup (split 10 m.rest.now) ≡ Ok s → Passed m.rest.now rest → start b ≡ sets s (from_names (m.lines + 1) (split 10 rest))
after_setup b m rest s short e moved is passed =
    let seen : setup (later (split 10 b.rest.now)) ≡ Ok s = ap setup (sym moved.lines) ∙ is in
    let lines : later (later (split 10 b.rest.now)) ≡ split 10 rest = ap later (sym moved.lines) ∙ sym passed.lines in
    let count : b.lines + 1 + 1 ≡ m.lines + 1 = ap (λ n. n + 1) (sym moved.count) in
    after_heading b.lines b.rest.now short e ∙ ap (λ h. onward (b.lines + 1 + 1) h (λ t. sets t (from_names (b.lines + 1 + 1) (later (later (split 10 b.rest.now)))))) seen ∙ (λ i. sets s (from_names (count i) (lines i)))

pub after_no_setup : (b m : Reader) (f : Fault) → length b.rest.now ≤ 65536 → heading (codes "rule threads") (split 10 b.rest.now) ≡ Ok tt → Moved b m → setup (split 10 m.rest.now) ≡ Err f.what → f.line ≡ m.lines + 1 → start b ≡ fault f
after_no_setup b m f short e moved is line =
    let seen : setup (later (split 10 b.rest.now)) ≡ Err f.what = ap setup (sym moved.lines) ∙ is in
    let count : b.lines + 1 + 1 ≡ f.line = ap (λ n. n + 1) (sym moved.count) ∙ sym line in
    after_heading b.lines b.rest.now short e ∙ ap (λ h. onward (b.lines + 1 + 1) h (λ t. sets t (from_names (b.lines + 1 + 1) (later (later (split 10 b.rest.now)))))) seen ∙ (λ i. fault (record { line = count i; what = f.what }))

-- a fault in the second line leaves the reader before that line
pub at_second : (b m : Reader) (f : Fault) (r : Result Setup Fault) → r ≡ Err f → MovedTo b.closed b m → f.line ≡ m.lines + 1 → AfterSetup b m r
at_second b m f r e moved line = rw e (record { second = λ _. moved; other = λ no. absurd (no (omega (arith, line, moved.moved.count))) })
