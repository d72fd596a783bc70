use Rattle.std.proofs.Common.{◌≡◌, ◌==◌, not}
use Rattle.thread.specs.Performing.{no_operation}
use Rattle.thread.proofs.Passes.{filled_passed}
use Rattle.thread.proofs.rows.Rows+Operation+ROOM.drop_number.Goals as goal

pub invariant_of-self : goal.invariant_of-self
invariant_of-self g c =
    let h = c.default.ensures in
    let e = c.take_number_out-self-inside.ensures in
    let blank : c.default.result ≡ no_operation = λ i. record { number = h.0 i; class = h.1.0 i; place = h.1.1.0 i; value = h.1.1.1 i } in
    rw e.rows (filled_passed c.self.invariant (λ o. not (o.number == c.args.number)) c.take_number_out-self-inside.result e.left c.default.result blank)
