use Rattle.std.proofs.Common.{eqb, get_or, sym}
use Rattle.std.specs.Str.Parse.{ExplainsUnsignedError, HasUnsignedDigitsIfOk}
use Rattle.std.proofs.lemmas.Bool.{or_parts, eqb-false}
use Rattle.fields.specs.Numbers.{padded}
use Rattle.fields.proofs.Numerals.{number_parsed}
use Rattle.fields.proofs.number.read_number.Goals as goal

pub returns : goal.returns
returns c =
    let field = c.args.field.now in
    let none = or_parts (eqb (get_or field 0 0) 43) (padded field) (sym c.if-has_prefix.ensures) in
    number_parsed (ExplainsUnsignedError 10) HasUnsignedDigitsIfOk field c.parse_field.result c.parse_field.ensures (eqb-false _ _ none.0) none.1
