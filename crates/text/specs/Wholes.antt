-- The text of a setup and its events, and that reading and writing a text are each other's inverse. Assumes nothing.
use Rattle.std.specs.Prelude.{◌≡◌, ℕ, ◌+◌, ◌^◌, ◌<◌, ◌≤◌, true, false, List, [], ◌∷◌, ◌++◌, length, codes}
use Rattle.event.specs.declared.event.Event.{Event}
use Rattle.event.specs.Events.{row_of}
use Rattle.line.specs.Lines.{line_of, Fit}
use Rattle.setup.specs.declared.setup.Setup.{Setup}
use Rattle.setup.specs.Setups.{setup_line}
use Rattle.text.specs.Texts.{Reading, done, sets, tells, closes, reading}

-- The lines of events, each with its line feed.
abbrev pub lines_of : List Event → List ℕ
lines_of [] = []
lines_of (e ∷ es) = line_of e ++ (10 ∷ lines_of es)

-- The whole text.
abbrev pub text_of : Setup → List Event → List ℕ
text_of s es = codes "rule threads" ++ (10 ∷ (setup_line s ++ (10 ∷ (codes "event thread what place value time" ++ (10 ∷ lines_of es)))))

-- Events told one after another, the first at line k.
abbrev pub telling : ℕ → List Event → Reading
telling k [] = done
telling k (e ∷ es) = tells k e (telling (k + 1) es)

-- Events with a close at the end, and none before, whose numbers are of 64 bits.
abbrev pub Closed : List Event → Type 0
Closed [] = ⊥
Closed (e ∷ []) = Fit (row_of e) × (closes e ≡ true)
Closed (e ∷ f ∷ es) = (Fit (row_of e) × (closes e ≡ false)) × Closed (f ∷ es)

-- A written text is read as what was written.
abbrev pub TextBack : Type 0
TextBack = (s : Setup) (es : List Event) → s.threads < 2 ^ 64 → Closed es → length (text_of s es) ≤ 65536 → reading (text_of s es) ≡ sets s (telling 4 es)

-- A text that is read without fault is the text of what it tells.
abbrev pub OneText : Type 0
OneText = (bs : List ℕ) (s : Setup) (es : List Event) → reading bs ≡ sets s (telling 4 es) → text_of s es ≡ bs
