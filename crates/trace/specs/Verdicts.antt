-- The verdict on a text. Assumes nothing.
use Rattle.std.specs.Prelude.{ℕ, List, Ok, Err, Result}
use Rattle.table.specs.declared.fault.Fault.{Fault}
use Rattle.table.specs.declared.fault.Fault.TheVariants as watch
use Rattle.verdict.specs.declared.verdict.Verdict.{Verdict}
use Rattle.verdict.specs.declared.verdict.Verdict.TheVariants.{Clean, Convicted, Refused, Garbled}
use Rattle.trace.specs.declared.fault.RunFault.{RunFault}
use Rattle.trace.specs.declared.fault.RunFault.TheVariants.{Text, Call}
use Rattle.trace.specs.Promises.{ConsistentText}
use Rattle.trace.specs.Runs.{run_text}

-- The verdict that a fault of the watch means.
abbrev pub by_watch : ℕ → Fault → Verdict
by_watch line (watch.Refused r) = Refused line r
by_watch line (watch.Convicted c) = Convicted line c

-- The verdict that a run comes to.
abbrev pub verdict_of : Result ℕ RunFault → Verdict
verdict_of (Ok line) = Clean line
verdict_of (Err (Text f)) = Garbled f
verdict_of (Err (Call f)) = by_watch f.line f.fault

abbrev pub verdict_on_text : List ℕ → Verdict
verdict_on_text bytes = verdict_of (run_text bytes)

-- A clean verdict carries the promise of the text.
abbrev pub ConsistentWhereClean : List ℕ → Verdict → Type 0
ConsistentWhereClean bytes (Clean line) = ConsistentText bytes
ConsistentWhereClean bytes (Convicted line c) = Unit {0}
ConsistentWhereClean bytes (Refused line r) = Unit {0}
ConsistentWhereClean bytes (Garbled f) = Unit {0}
