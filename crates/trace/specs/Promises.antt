-- What a clean verdict on a text promises. Assumes nothing.
use Rattle.std.specs.Prelude.{◌≡◌, ℕ, List, Ok, Err, Result}
use Rattle.consistency.specs.Consistent.{Consistent}
use Rattle.setup.specs.declared.setup.Setup.{Setup}
use Rattle.text.specs.Texts.{Reading, sets, reading}
use Rattle.trace.specs.declared.fault.RunFault.{RunFault}
use Rattle.trace.specs.Runs.{set_rule, run_text, written_trace}

-- A text whose run ends clean has a setup, and the trace that it writes down is consistent under the rule that it names.
pub record ConsistentText (bytes : List ℕ) : Type 0 where
  pub setup : Setup
  pub events : Reading
  pub told : reading bytes ≡ sets setup events
  pub consistent : Consistent (set_rule setup) (written_trace setup events)

abbrev pub ConsistentIfClean : List ℕ → Result ℕ RunFault → Type 0
ConsistentIfClean bytes (Ok line) = ConsistentText bytes
ConsistentIfClean bytes (Err f) = Unit {0}

-- For every text.
abbrev pub CleanTextIsConsistent : Type 0
CleanTextIsConsistent = (bytes : List ℕ) → ConsistentIfClean bytes (run_text bytes)
