-- Reading and writing the second line are each other's inverse. Assumes nothing.
use Rattle.std.proofs.Common.{◌≡◌, ◌^◌, ◌<◌, [], ◌∷◌, ◌++◌, length, Ok, decimal, Result, sym, refl, ap, ◌∙◌, arith, length-append}
use Rattle.std.specs.Option.{ok_or}
use Rattle.std.specs.Str.Iter.{LacksByte}
use Rattle.std.specs.List.{join_with_byte}
use Rattle.fields.specs.Numbers.{number}
use Rattle.fields.specs.Splits.{split}
use Rattle.fields.proofs.Lacking.{lacks_cons, lacks_append}
use Rattle.fields.proofs.Numerals.{number_decimal, decimal_number, length_decimal, lacks_in_decimal}
use Rattle.std.proofs.lemmas.List.Splits.{join_with_byte-slice_split}
use Rattle.fields.proofs.Splitting.{split_front, split_last}
use Rattle.fields.proofs.Stepping.{then_ok, some_from_ok_or}
use Rattle.line.specs.declared.fault.Garbled.{Garbled}
use Rattle.line.specs.declared.fault.Garbled.TheVariants.{FieldCount, Unknown, Number}
use Rattle.setup.specs.declared.setup.Setup.{Setup}
use Rattle.setup.specs.Rules.{name_of, rule_named}
use Rattle.setup.specs.Setups.{two, setup_line, SetupBack, OneSetup}
use Rattle.setup.proofs.Pairs.{two_from_some}
use Rattle.setup.proofs.Ruling.{rule_name, name_rule, rule_length, spaceless_rule, feedless_rule}

pub setup_back : SetupBack
setup_back s small =
    let fields : split 32 (setup_line s) ≡ name_of s.rule ∷ decimal s.threads ∷ [] = split_front 32 _ _ (spaceless_rule s.rule) ∙ ap (λ t. name_of s.rule ∷ t) (split_last 32 _ (lacks_in_decimal 32 _ (omega arith) small)) in
    rw (fields, rule_name s.rule, number_decimal s.threads small) refl

pub one_setup : OneSetup
one_setup l s e =
    let f = then_ok (ok_or (two (split 32 l)) FieldCount) _ s e in
    let r = then_ok (ok_or (rule_named f.0.0) Unknown) _ s f.1.1 in
    let n = then_ok (ok_or (number f.0.1) Number) _ s r.1.1 in
    let made : Setup = record { rule = r.0; threads = n.0 } in
    let last : ◌≡◌ {A = Result Setup Garbled} (Ok made) (Ok s) = n.1.1 in
    let same : made ≡ s = cc in
    let rule : f.0.0 ≡ name_of r.0 = name_rule _ _ (some_from_ok_or _ Unknown r.0 r.1.0) in
    let threads : f.0.1 ≡ decimal n.0 = (decimal_number _ _ (some_from_ok_or _ Number n.0 n.1.0)).0 in
    let whole : l ≡ f.0.0 ++ (32 ∷ f.0.1) = sym (join_with_byte-slice_split 32 l) ∙ ap (join_with_byte 32) (two_from_some (split 32 l) f.0 (some_from_ok_or _ FieldCount f.0 f.1.0)) in
    sym (whole ∙ (λ i. rule i ++ (32 ∷ threads i)) ∙ ap setup_line same)

-- the second line is short
pub length_setup : (s : Setup) → s.threads < 2 ^ 64 → length (setup_line s) < 112
length_setup s small = omega (arith, length-append (name_of s.rule) (32 ∷ decimal s.threads), rule_length s.rule, length_decimal s.threads small)

-- the second line has no line feed
pub feedless_setup : (s : Setup) → s.threads < 2 ^ 64 → LacksByte 10 (setup_line s)
feedless_setup s small = lacks_append 10 (name_of s.rule) (32 ∷ decimal s.threads) (feedless_rule s.rule) (lacks_cons 10 32 (decimal s.threads) (λ e. omega arith) (lacks_in_decimal 10 s.threads (omega arith) small))
