-- What the run of a whole text comes to. Assumes nothing.
use Rattle.std.specs.Prelude.{ℕ, List, [], ◌++◌, Some, None, Ok, Err, Option, Result}
use Rattle.line.specs.declared.fault.Garbled.TheVariants as garbled
use Rattle.ordering.specs.Named.{named_orders}
use Rattle.ordering.specs.declared.named.NamedRule.{NamedRule}
use Rattle.ordering.specs.declared.named.NamedRule.TheVariants as rules
use Rattle.semantics.specs.declared.verdict.Refusal.{Refusal}
use Rattle.semantics.specs.Calls.{Call}
use Rattle.semantics.specs.Laws.{Rule, Precedes, by_rule}
use Rattle.semantics.specs.Lists.{first_of}
use Rattle.semantics.specs.Refusals.{making_checks}
use Rattle.semantics.specs.State.{State, made}
use Rattle.semantics.specs.Trace.{Trace, follow}
use Rattle.table.specs.declared.fault.Fault.{Fault}
use Rattle.table.specs.declared.fault.Fault.TheVariants.{Refused}
use Rattle.setup.specs.declared.setup.RuleName.{RuleName}
use Rattle.setup.specs.declared.setup.RuleName.TheVariants.{Sc, Tso, Pso, Rmo}
use Rattle.setup.specs.declared.setup.Setup.{Setup}
use Rattle.text.specs.Texts.{Reading, done, fault, sets, tells, reading}
use Rattle.trace.specs.declared.fault.RunFault.{RunFault}
use Rattle.trace.specs.declared.fault.RunFault.TheVariants as why
use Rattle.trace.specs.Plays.{played}

-- The run ends at a fault of the watch, told with its line, and else goes on.
abbrev pub unless_fault : ℕ → Option Fault → Result ℕ RunFault → Result ℕ RunFault
unless_fault line (Some f) more = Err (why.Call (record { line = line; fault = f }))
unless_fault line None more = more

-- The run of events on a watch that holds s: the line of the close with which it ended, or the first fault. The last line so far is k.
abbrev pub run : Precedes → State → ℕ → Reading → Result ℕ RunFault
run B s k done = Ok k
run B s k (fault f) = Err (why.Text f)
run B s k (sets x r) = run B s k r
run B s k (tells line e r) = unless_fault line (played B s e).fault (run B (played B s e).state line r)

-- The calls that the run makes, in their order.
abbrev pub while_taken : Option Fault → List Call → List Call
while_taken (Some f) more = []
while_taken None more = more

abbrev pub calls : Precedes → State → Reading → List Call
calls B s done = []
calls B s (fault f) = []
calls B s (sets x r) = calls B s r
calls B s (tells line e r) = (played B s e).calls ++ while_taken (played B s e).fault (calls B (played B s e).state r)

-- The rule that a text names.
abbrev pub rule_of : RuleName → NamedRule
rule_of Sc = rules.Sc
rule_of Tso = rules.Tso
rule_of Pso = rules.Pso
rule_of Rmo = rules.Rmo

abbrev pub set_rule : Setup → Rule
set_rule x = named_orders (rule_of x.rule)

-- Line 2 makes the watch, which may be refused.
abbrev pub made_by : Option Refusal → Result ℕ RunFault → Result ℕ RunFault
made_by (Some r) more = Err (why.Call (record { line = 2; fault = Refused r }))
made_by None more = more

-- The run of what a text tells. It starts with the setup, or with a fault before it.
abbrev pub run_all : Reading → Result ℕ RunFault
run_all done = Err (why.Text (record { line = 1; what = garbled.End }))
run_all (fault f) = Err (why.Text f)
run_all (sets x r) = made_by (first_of (making_checks x.threads)) (run (by_rule (set_rule x)) (made x.threads) 3 r)
run_all (tells line e r) = Err (why.Text (record { line = 1; what = garbled.Heading }))

-- The run of a text.
abbrev pub run_text : List ℕ → Result ℕ RunFault
run_text bytes = run_all (reading bytes)

-- The trace that a text with this setup writes down.
abbrev pub written_trace : Setup → Reading → Trace
written_trace x r = (follow (set_rule x) (calls (by_rule (set_rule x)) (made x.threads) r) [] (made x.threads)).0
