use Rattle.std.proofs.Common.{◌≡◌, ◌==◌, Some, not, ap, arith}
use Rattle.std.specs.List.{position}
use Rattle.std.proofs.lemmas.List.Elements.{All-filter}
use Rattle.semantics.specs.declared.row.Epoch.{Epoch}
use Rattle.thread.specs.Performing.{no_epoch}
use Rattle.thread.specs.Sound.{IsBegun}
use Rattle.thread.proofs.Begun.{begun_later}
use Rattle.thread.proofs.Lists.{found_from_position, filter_shorter}
use Rattle.thread.proofs.row.ThreadRow.end.Goals as goal

pub invariant_of-self : goal.invariant_of-self
invariant_of-self c =
    let w = c.self.inside in
    let i = c.self.invariant in
    let clock = ap (λ s. s.clock) c.self.view_is in
    let later = begun_later w.clock c.args.time (omega (arith, clock, c.requires)) w.epochs i.epochs_begun in
    record {
      commits_fit = i.commits_fit;
      epochs_begun = rw c.drop_place.ensures (All-filter (λ e. not (e.place == c.args.place)) (IsBegun c.args.time) w.epochs later);
    }

pub returns-clause-fewer : goal.returns-clause-fewer
returns-clause-fewer c = λ i h.
    let es = c.self.inside.epochs in
    let p = λ (e : Epoch). e.place == c.args.place in
    let row : position p es ≡ Some i = rw (ap (λ s. s.epochs) c.self.view_is) h in
    rw (c.drop_place.ensures, ← ap (λ s. s.epochs) c.self.view_is) (filter_shorter p es _ ((found_from_position p es i row).here no_epoch))
