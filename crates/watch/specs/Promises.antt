-- What the calls of a watch promise of its trace, for every rule and every number of threads. Assumes nothing.
use Rattle.std.specs.Prelude.{◌≡◌, ℕ, ◌∷◌}
use Rattle.semantics.specs.declared.counts.Counts.{Counts}
use Rattle.semantics.specs.declared.verdict.Verdict.{Verdict}
use Rattle.semantics.specs.declared.verdict.Verdict.TheVariants.{Clean}
use Rattle.semantics.specs.Calls.{Call, close, Answer}
use Rattle.semantics.specs.Calls
use Rattle.semantics.specs.Laws.{Rule}
use Rattle.semantics.specs.State.{State}
use Rattle.semantics.specs.Trace.{Trace, Follows, starting}
use Rattle.accounts.specs.Exact.{Exact, sizes}
use Rattle.accounts.specs.Homes.{Homes}
use Rattle.accounts.specs.Rows.{Rows, AddsUp}
use Rattle.consistency.specs.Consistent.{Consistent, AllPerformed, KeepsPlaces, CopiesAreLatest}
use Rattle.consistency.specs.Performed.{performs}
use Rattle.honest.specs.Honest.{HonestCall, HonestClose}
use Rattle.watch.specs.Took.{Held, event}

-- The accounts of a trace are exact: the counts, the rows, the sums of the calls, and what the judged made of the homes.
pub record Accounted (tr : Trace) (s : State) : Type 0 where
  pub exact : Exact tr s
  pub rows : Rows tr s
  pub sums : AddsUp tr
  pub homes : Homes tr s

-- What a clean trace shows: an order of what performed that keeps the rule and gives each load its value; and that everything performed.
pub record ShownClean (R : Rule) (tr : Trace) : Type 0 where
  pub consistent : Consistent R tr
  pub places : KeepsPlaces (performs tr)
  pub copies : CopiesAreLatest (performs tr) (starting tr)
  pub all_performed : AllPerformed tr

-- Every call: where the trace with it is the front of an honest board's record within the limits, it is taken; and the accounts are exact.
pub record Promised {X : Type 0} (orders : X → Rule) (before : Held X) (c : Call) (a : Answer) (after : Held X) : Type 0 where
  pub honest : (n : ℕ) (tr : Trace) → Follows (orders before.rule) n tr before.state → HonestCall (orders before.rule) n tr c a
  pub accounts : (n : ℕ) (tr : Trace) → Follows (orders before.rule) n tr before.state → Accounted (event c a ∷ tr) after.state

-- A close: if it answers clean, the trace is consistent under the rule. If it completes an honest board's record within the limits,
-- every call before it was taken and it answers clean. And the accounts are exact.
pub record ClosePromised {X : Type 0} (orders : X → Rule) (before : Held X) (a : Answer) (after : Held X) : Type 0 where
  pub clean : (n : ℕ) (tr : Trace) → Follows (orders before.rule) n tr before.state → a ≡ Calls.clean → ShownClean (orders before.rule) (event close a ∷ tr)
  pub honest : (n : ℕ) (tr : Trace) → Follows (orders before.rule) n tr before.state → HonestClose (orders before.rule) n tr a
  pub accounts : (n : ℕ) (tr : Trace) → Follows (orders before.rule) n tr before.state → Accounted (event close a ∷ tr) after.state

-- The counts are the sizes of the accounts of whatever trace the watch has met.
pub record Counted {X : Type 0} (orders : X → Rule) (now : Held X) (counts : Counts) : Type 0 where
  pub counted : (n : ℕ) (tr : Trace) → Follows (orders now.rule) n tr now.state → counts ≡ sizes tr
  pub accounts : (n : ℕ) (tr : Trace) → Follows (orders now.rule) n tr now.state → Accounted tr now.state

-- A watch whose verdict is clean has met a clean trace.
abbrev pub Concluded : {X : Type 0} → (X → Rule) → Held X → Verdict → Type 0
Concluded orders now v = (n : ℕ) (tr : Trace) → Follows (orders now.rule) n tr now.state → v ≡ Clean → ShownClean (orders now.rule) tr
