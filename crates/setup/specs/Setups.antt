-- The second line of a trace, read and written. Assumes nothing.
use Rattle.std.specs.Prelude.{◌≡◌, ℕ, ◌^◌, ◌<◌, List, [], ◌∷◌, ◌++◌, Some, None, Ok, decimal, Option, Result}
use Rattle.std.specs.Option.{ok_or}
use Rattle.fields.specs.Numbers.{number}
use Rattle.fields.specs.Splits.{split}
use Rattle.fields.specs.Steps.{◌then◌}
use Rattle.line.specs.declared.fault.Garbled.{Garbled}
use Rattle.line.specs.declared.fault.Garbled.TheVariants.{FieldCount, Unknown, Number}
use Rattle.setup.specs.declared.setup.Setup.{Setup}
use Rattle.setup.specs.Rules.{name_of, rule_named}

-- The fields of a line, if there are just two.
abbrev pub two : List (List ℕ) → Option (List ℕ × List ℕ)
two [] = None
two (a ∷ []) = None
two (a ∷ b ∷ []) = Some (a, b)
two (a ∷ b ∷ c ∷ fs) = None

-- The setup of a line: two fields, a rule that is known, and a number of threads.
abbrev pub read_setup : List ℕ → Result Setup Garbled
read_setup l =
    ok_or (two (split 32 l)) FieldCount then λ f.
    ok_or (rule_named f.0) Unknown then λ r.
    ok_or (number f.1) Number then λ n.
    Ok (record { rule = r; threads = n })

-- The line of a setup, without its line feed.
abbrev pub setup_line : Setup → List ℕ
setup_line s = name_of s.rule ++ (32 ∷ decimal s.threads)

-- The line of a setup is read as that setup.
abbrev pub SetupBack : Type 0
SetupBack = (s : Setup) → s.threads < 2 ^ 64 → read_setup (setup_line s) ≡ Ok s

-- A line that is read as a setup is the line of that setup.
abbrev pub OneSetup : Type 0
OneSetup = (l : List ℕ) (s : Setup) → read_setup l ≡ Ok s → setup_line s ≡ l
