use Rattle.std.proofs.Common.{◌≤◌, ◌<◌, length, sym, arith, ◌∙◌}
use Rattle.std.proofs.lemmas.Bool.Decides.{nat_tests}
use Rattle.thread.proofs.Tests.{begins_by, begun_already, begun_full}
use Rattle.thread.proofs.row.ThreadRow.may_begin.Goals as goal

pub returns-then-is_some : goal.returns-then-is_some
returns-then-is_some c =
    let a = c.args in
    begun_already a.self.now a.kind a.place a.time c.in_ok-kind.kind c.epoch.result (sym c.try_from.ensures ∙ c.in_ok-kind.was) (omega arith) c.in_ok-may_advance.ensures.time c.epoch.ensures (sym c.if-is_some.ensures)

pub returns-then-epochs_are_full : goal.returns-then-epochs_are_full
returns-then-epochs_are_full c =
    let a = c.args in
    let full = c.if-epochs_are_full.ensures in
    let room : 32 ≤ length a.self.now.epochs = grind (arith, nat_tests, full) in
    begun_full a.self.now a.kind a.place a.time c.in_ok-kind.kind c.epoch.result (sym c.try_from.ensures ∙ c.in_ok-kind.was) (omega arith) c.in_ok-may_advance.ensures.time c.epoch.ensures (sym c.if-is_some.ensures) room

pub returns : goal.returns
returns c =
    let a = c.args in
    let full = c.if-epochs_are_full.ensures in
    let room : length a.self.now.epochs < 32 = grind (arith, nat_tests, full) in
    begins_by a.self.now a.kind a.place a.time c.in_ok-kind.kind c.epoch.result (sym c.try_from.ensures ∙ c.in_ok-kind.was) (omega arith) c.in_ok-may_advance.ensures.time c.epoch.ensures (sym c.if-is_some.ensures) room
