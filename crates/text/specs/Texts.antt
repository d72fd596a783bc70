-- What a whole text tells: its setup and its events, each with its line, up to the first fault. Assumes nothing.
use Rattle.std.specs.Prelude.{◌≡◌, ℕ, ◌+◌, ◌<◌, Bool, true, false, cond, List, [], ◌∷◌, length, Ok, Err, codes, Result, ◌==◌, nat_lt}
use Rattle.std.specs.Str.{bytes_eq}
use Rattle.fields.specs.Splits.{split}
use Rattle.fields.specs.Steps.{◌then◌}
use Rattle.event.specs.declared.event.Event.{Event}
use Rattle.event.specs.declared.event.Event.TheVariants as says
use Rattle.line.specs.declared.fault.Garbled.{Garbled}
use Rattle.line.specs.declared.fault.Garbled.TheVariants.{TextLength, LineLength, Heading, End}
use Rattle.line.specs.Lines.{read}
use Rattle.setup.specs.declared.setup.Setup.{Setup}
use Rattle.setup.specs.Setups.{read_setup}
use Rattle.text.specs.declared.fault.Fault.{Fault}

-- The lines of a text are its parts between line feeds; the last part is what follows the last line feed.

-- The next line. A text that ends here lacks it; one without a line feed, or of more than 112 bytes with it, is too long.
abbrev pub line : List (List ℕ) → Result (List ℕ) Garbled
line [] = Err End
line (l ∷ []) = cond (length l == 0) (Err End) (Err LineLength)
line (l ∷ m ∷ ls) = cond (nat_lt (length l) 112) (Ok l) (Err LineLength)

-- The lines after the next.
abbrev pub later : List (List ℕ) → List (List ℕ)
later [] = []
later (l ∷ ls) = ls

-- The next line, which has to be t.
abbrev pub heading : List ℕ → List (List ℕ) → Result (Unit {0}) Garbled
heading t ls = line ls then λ l. cond (bytes_eq l t) (Ok tt) (Err Heading)

-- The next line as the rule and the number of threads.
abbrev pub setup : List (List ℕ) → Result Setup Garbled
setup ls = line ls then read_setup

-- The next line as an event.
abbrev pub event_at : List (List ℕ) → Result Event Garbled
event_at ls = line ls then read

-- No byte is left.
abbrev pub over : List (List ℕ) → Bool
over [] = true
over (l ∷ []) = length l == 0
over (l ∷ m ∷ ls) = false

-- The event is a close.
abbrev pub closes : Event → Bool
closes (says.Preset place value) = false
closes (says.Commit thread class place value) = false
closes (says.Perform thread number time) = false
closes (says.Advance thread time) = false
closes (says.Begin thread kind place value time) = false
closes (says.End thread place value time) = false
closes says.Settle = false
closes says.Close = true

-- What a text tells, in order: its setup, events with their lines, and at last its end or a fault.
pub data Reading : Type 0 where
  done : Reading
  fault : Fault → Reading
  sets : Setup → Reading → Reading
  tells : ℕ → Event → Reading → Reading

-- A fault at line k.
abbrev pub wrong : ℕ → Garbled → Reading
wrong k g = fault (record { line = k; what = g })

-- After a close, with k lines read: the text has to end.
abbrev pub closed : ℕ → List (List ℕ) → Reading
closed k ls = cond (over ls) done (wrong (k + 1) End)

-- Line k as an event, and what is told after it if it is a close, and if it is none.
abbrev pub told : ℕ → Result Event Garbled → Reading → Reading → Reading
told k (Ok e) after_close more = tells k e (cond (closes e) after_close more)
told k (Err g) after_close more = wrong k g

-- The events, with k lines read.
abbrev pub events : ℕ → List (List ℕ) → Reading
events k [] = wrong (k + 1) End
events k (l ∷ ls) = told (k + 1) (event_at (l ∷ ls)) (closed (k + 1) ls) (events (k + 1) ls)

-- What follows line k, which is no event.
abbrev pub onward : {A : Type 0} → ℕ → Result A Garbled → (A → Reading) → Reading
onward k (Ok x) f = f x
onward k (Err g) f = wrong k g

-- The line of names and the events, with k lines read.
abbrev pub from_names : ℕ → List (List ℕ) → Reading
from_names k ls = onward (k + 1) (heading (codes "event thread what place value time") ls) (λ _. events (k + 1) (later ls))

-- The whole of a text of which nothing was read, its lines numbered from k + 1.
abbrev pub from_start : ℕ → List ℕ → Reading
from_start k bs =
    cond (nat_lt 65536 (length bs)) (wrong 0 TextLength)
    (onward (k + 1) (heading (codes "rule threads") (split 10 bs)) (λ _.
    onward (k + 1 + 1) (setup (later (split 10 bs))) (λ s.
    sets s (from_names (k + 1 + 1) (later (later (split 10 bs)))))))

-- What a text tells.
abbrev pub reading : List ℕ → Reading
reading bs = from_start 0 bs

-- The text after is what follows the first line of bs.
pub record Passed (bs after : List ℕ) : Type 0 where
  pub lines : split 10 after ≡ later (split 10 bs)
  pub less : length after < length bs
