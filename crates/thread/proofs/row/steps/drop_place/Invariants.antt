use Rattle.std.proofs.Common.{◌≡◌, ◌==◌, not, filter, length}
use Rattle.thread.proofs.row.steps.drop_place.Given as goal

abbrev pub invariant-loop-i : goal.invariant-loop-i
invariant-loop-i l = filter (λ e. not (e.place == l.place)) l.epochs ≡ filter (λ e. not (e.place == l.place)) l.initial.epochs

abbrev pub decreases-loop-i : goal.decreases-loop-i
decreases-loop-i l = length l.epochs
