use Rattle.std.proofs.Common.{◌≡◌, ◌<◌, ◌==◌, true, false, not, length, get_or, subst, rules, arith}
use Rattle.std.proofs.lemmas.Bool.Decides.{nat_tests}
use Rattle.std.proofs.lemmas.List.{get_or_default}
use Rattle.std.proofs.lemmas.List.Filters.{FiltersInPlace, FiltersInPlace-more_no, FiltersInPlace-more_set}
use Rattle.semantics.specs.declared.row.Operation.{Operation}
use Rattle.thread.specs.Performing.{no_operation}
use Rattle.thread.proofs.Passes.{passed_blanks}
use Rattle.thread.proofs.rows.take_number_out.Goals as goal
use Rattle.thread.proofs.rows.take_number_out.Goals.{then-rows-i, else-rows-i}

pub loop-i-preserved : goal.loop-i-preserved
loop-i-preserved c =
    let rows = c.loop-i.rows in
    let row = get_or rows c.loop-i.i no_operation in
    let long = c.loop-i.invariant.long in
    let l : c.loop-i.i < length rows = omega (arith, c.loop-i-test.true, c.requires, long) in
    let same = get_or_default rows c.loop-i.i no_operation row l in
    elim c.if-rows-i.branch [
      | then-rows-i w ↦ let t = w.if-rows-i.true in let other : not (row.number == c.args.number) ≡ true = grind (arith, nat_tests, t) in rw (w.rows-is, w.left-is) (FiltersInPlace-more_set c.loop-i.invariant l other same)
      | else-rows-i w ↦ let t = w.if-rows-i.false in let gone : not (row.number == c.args.number) ≡ false = grind (arith, nat_tests, t) in rw (w.rows-is, w.left-is) (FiltersInPlace-more_no c.loop-i.invariant l gone same)
    ]

pub returns-clause-rows : goal.returns-clause-rows
returns-clause-rows c =
    let ended : c.loop-i.i ≡ c.args.count = omega (arith, c.loop-i-test.false, c.loop-i.auto.i-end) in
    let f = subst (λ k. FiltersInPlace (λ (o : Operation). not (o.number == c.args.number)) c.args.rows.now c.loop-i.rows c.loop-i.left k) ended c.loop-i.invariant in
    passed_blanks f c.args.blank c.fill.new.self (c.fill.ensures.after (λ y h. search rules))
