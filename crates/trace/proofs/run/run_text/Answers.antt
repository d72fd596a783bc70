-- The reader tells the setup and then the events, which the watch is played.
use Rattle.std.proofs.Common.{◌≡◌, sym, refl, ap, ◌∙◌}
use Rattle.std.proofs.lemmas.Result.{MatchResult-at_ok}
use Rattle.text.specs.Texts.{sets}
use Rattle.trace.specs.Runs.{run_text}
use Rattle.trace.proofs.RunTexts.{ran, gave, carries}
use Rattle.trace.proofs.run.run_text.Goals as goal

pub returns : goal.returns
returns c =
    let x = c.in_ok-setup.setup in
    let bytes = c.args.text.now in
    let told = sym c.new-reader.ensures.value ∙ (c.in_ok-setup.ensures.rest ∙ ap (sets x) c.in_ok-names.ensures.rest) in
    let made = MatchResult-at_ok _ _ _ (gave c.try_from.result _ c.in_ok-threads.threads _ refl c.in_ok-threads.ensures.variant c.in_ok-threads.ensures.cases) c.try_from.ensures in
    let e : c.run_events.result ≡ run_text bytes =
    ran bytes x _ c.new-watch.result.rule c.in_ok-threads.threads.count _ c.run_events.result told
    made.0 made.1
    (c.new-watch.ensures.same ∙ c.rule_named.ensures) c.new-watch.ensures.state c.run_events.ensures.answer
    in
    record { answer = e; consistent = carries bytes c.run_events.result e }
