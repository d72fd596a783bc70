use Rattle.std.proofs.Common.{◌≡◌, ◌==◌, Some, None, sym, ◌∙◌}
use Rattle.std.specs.List.{position}
use Rattle.semantics.specs.declared.row.Epoch.{Epoch}
use Rattle.thread.specs.Performing.{no_epoch}
use Rattle.thread.proofs.Lists.{found_from_position, none_from_position, filter_remove, filter_whole}
use Rattle.thread.proofs.row.steps.drop_place.Goals as goal

pub loop-i-preserved : goal.loop-i-preserved
loop-i-preserved c =
    let es = c.loop-i.epochs in
    let p = λ (e : Epoch). e.place == c.args.place in
    let row : position p es ≡ Some c.in-Some.i = rw (← c.deref.ensures.0) (sym c.in-Some.ensures) in
    let found = found_from_position p es c.in-Some.i row in
    rw c.remove.ensures (filter_remove p es c.in-Some.i no_epoch found.within (found.passes no_epoch) ∙ c.loop-i.invariant)

pub returns : goal.returns
returns c =
    let es = c.loop-i.epochs in
    let p = λ (e : Epoch). e.place == c.args.place in
    let row : position p es ≡ None = rw (← c.deref.ensures.0) (sym c.in_default.ensures) in
    sym (filter_whole p es (none_from_position p es row)) ∙ c.loop-i.invariant
