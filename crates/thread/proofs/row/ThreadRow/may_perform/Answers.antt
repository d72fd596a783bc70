use Rattle.std.proofs.Common.{◌==◌, sym}
use Rattle.semantics.specs.declared.row.Operation.{Operation}
use Rattle.thread.specs.Performing.{no_operation}
use Rattle.thread.proofs.Lists.{found_from_position, none_from_position}
use Rattle.thread.proofs.Tests.{performs_free, performs_refused}
use Rattle.thread.proofs.row.ThreadRow.may_perform.Goals as goal

pub returns-in_default : goal.returns-in_default
returns-in_default c =
    let w = c.args.self.now in
    performs_refused w c.args.number c.args.time c.in_ok-may_advance.ensures.time (none_from_position (λ o. o.number == c.args.number) w.pending (sym c.in_default.ensures))

pub returns : goal.returns
returns c =
    let w = c.args.self.now in
    let found = found_from_position (λ (o : Operation). o.number == c.args.number) w.pending c.in-Some.i (sym c.in-Some.ensures) in
    performs_free w c.args.number c.args.time _ c.in_ok-may_advance.ensures.time (rw c.operation_in.ensures (found.here no_operation))
