use Rattle.std.proofs.Common.{◌≡◌, ◌∷◌, true, drop, rules, None, ◌∙◌, arith}
use Rattle.semantics.specs.Judging.{home_laws}
use Rattle.semantics.specs.State.{home_of}
use Rattle.table.proofs.Judgings.{goes_on}
use Rattle.table.proofs.table.Table.judge.Goals as goal

pub loop-row-preserved : goal.loop-row-preserved
loop-row-preserved g c =
    let s = c.loop-row.self in
    let e = c.in-Some.row in
    let es = drop 1 s.waiting in
    let here : s.waiting ≡ e ∷ es = search rules in
    let next = c.accept.ensures e es here in
    let lawful : home_laws (home_of s e.place) e ≡ None = search rules in record {
      same = λ p k.
          let told = k _ _ c.due.ensures in
          let is : p e ≡ true = search rules in
          goes_on p s c.accept.new.self c.loop-row.done e es here is lawful next ∙ c.loop-row.invariant.same p k;
      counted = rw next (omega (arith, c.loop-row.invariant.counted));
    }

pub loop-row-smaller : goal.loop-row-smaller
loop-row-smaller g c =
    let s = c.loop-row.self in
    let here : s.waiting ≡ c.in-Some.row ∷ drop 1 s.waiting = search rules in
    rw (c.accept.ensures _ _ here, here) (search rules)
