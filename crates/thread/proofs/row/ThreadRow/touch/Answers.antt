use Rattle.std.proofs.Common.{◌≡◌, ◌<◌, arith, ap, get_or, length, refl}
use Rattle.std.proofs.lemmas.List.Elements.{All-set, All-get_or}
use Rattle.semantics.specs.Effect.{touch}
use Rattle.thread.specs.Performing.{no_epoch}
use Rattle.thread.specs.Sound.{IsBegun}
use Rattle.thread.proofs.row.ThreadRow.touch.Goals as goal

pub invariant_of-self : goal.invariant_of-self
invariant_of-self c =
    let w = c.self.inside in
    let v = c.self.invariant in
    let a = c.args in
    let es = w.epochs in
    let clock : w.clock ≡ a.self.now.clock = ap (λ s. s.clock) c.self.view_is in
    let room : a.i < length es = rw (ap (λ s. s.epochs) c.self.view_is) c.requires.within in
    let old = All-get_or (IsBegun w.clock) es a.i no_epoch room v.epochs_begun in
    let touched : c.touched.result ≡ touch a.time a.op (get_or es a.i no_epoch) = rw (c.touched.ensures, c.deref.ensures.0) refl in
    let new : IsBegun w.clock c.touched.result = rw touched (record { before_use = omega (arith, old.before_clock, clock, c.requires.time); before_clock = old.before_clock }) in
    record {
      commits_fit = v.commits_fit;
      epochs_begun = rw c.set.ensures (All-set (IsBegun w.clock) es a.i c.touched.result new v.epochs_begun);
    }
