use Rattle.std.proofs.Common.{◌+◌, ◌∷◌, take, drop, sym, ap, ◌∙◌, arith, length-drop, take_all}
use Rattle.fields.specs.Splits.{split}
use Rattle.fields.proofs.Splitting.{split_at, split_without}
use Rattle.fields.proofs.cut.cut.Goals as goal

pub returns-in_err-at-clause-value : goal.returns-in_err-at-clause-value
returns-in_err-at-clause-value c = rw c.from_residual.ensures (split_without _ _ (sym c.first_at.ensures ∙ c.in_err-at.was))

pub returns-clause-value : goal.returns-clause-value
returns-clause-value c =
    let text = c.args.text.now in
    let at = c.in_ok-at.at in
    split_at c.args.mark text at (sym c.first_at.ensures ∙ c.in_ok-at.was)
    ∙ ap (λ rest. take at text ∷ split c.args.mark rest) (sym (take_all _ (drop (at + 1) text) (omega (arith, length-drop (at + 1) text))))
