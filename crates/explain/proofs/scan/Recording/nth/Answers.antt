-- The events come from the reader, and the wanted ones from them.
use Rattle.std.proofs.Common.{sym, ap, ◌∙◌, rules, tests}
use Rattle.std.proofs.lemmas.Iterator.Consumers.{YieldsList-from_filter, YieldsList-from_first}
use Rattle.text.specs.Readers.{left}
use Rattle.explain.specs.Scans.{meant, entries}
use Rattle.explain.proofs.Meant.{nth_found}
use Rattle.explain.proofs.scan.Recording.nth.Goals as goal

pub returns : goal.returns
returns c =
    let w = c.args.wanted in
    let told = ap (λ s. entries (left s.0)) c.filter.ensures.source ∙ sym c.in_ok-events.ensures in
    nth_found c.nth.result c.nth.new.self c.args.number c.nth.ensures.ran
    (YieldsList-from_filter _ (λ e. meant w e.line e.event) (YieldsList-from_first (λ x. x) (λ s. entries (left s.0)) _ told) c.filter.ensures.closure (λ x b q k. search (rules, tests)))
