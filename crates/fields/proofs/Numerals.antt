-- What a field must be to write a number, and the field that a number is written as. Assumes nothing.
use Rattle.std.proofs.Common.{◌≡◌, ℕ, ◌+◌, ◌/◌, ◌^◌, ◌<◌, ◌≤◌, true, false, not, ◌&&◌, ltb, List, [], ◌∷◌, length, get_or, Some, None, Ok, Err, IsUtf8, decimal, Option, Result, MatchOption, sym, refl, ap, ◌∙◌, subst, inl, inr, arith, length-append, rules}
use Rattle.std.specs.Str.Parse.{ParsesUnsigned}
use Rattle.std.specs.Str.Iter.{LacksByte}
use Rattle.std.specs.Str.{all_ascii_digits}
use Rattle.std.proofs.lemmas.Bool.{cond-true, cond-false, cases_Bool, and_parts, and_from, ltb-true, lt-ltb, not-true, not_from_false, eqb-false, ne_eqb, cases_lt}
use Rattle.std.proofs.lemmas.Str.Parse.{IsNumeralModel, numerals_by_fold, parse_plain, digit_at, not_in_digits}
use Rattle.std.proofs.lemmas.Fmt.{digits_decimal, digits_value-decimal, decimal_nonempty, decimal_digit, first_decimal, decimal-digits_value, decimal_step, length-decimal-le, IsAscii-from_digits}
use Rattle.std.proofs.lemmas.Str.{IsUtf8-from_ascii}
use Rattle.fields.specs.Parses.{ParsesNone}
use Rattle.fields.specs.Numbers.{onward, padded, numeral, number}

own : IsNumeralModel (λ ds. all_ascii_digits ds ≡ true) (onward 0)
own = numerals_by_fold _ (search rules) onward (search rules)

-- what `numeral` tests
pub record Plain (bs : List ℕ) : Type 0 where
  pub some : 0 < length bs
  pub digits : all_ascii_digits bs ≡ true
  pub bare : padded bs ≡ false
  pub small : onward 0 bs < 2 ^ 64

pub plain_from_numeral : (bs : List ℕ) → numeral bs ≡ true → Plain bs
plain_from_numeral bs e =
    let p = and_parts (ltb 0 (length bs) && all_ascii_digits bs) (not (padded bs) && ltb (onward 0 bs) (2 ^ 64)) e in
    let q = and_parts (ltb 0 (length bs)) (all_ascii_digits bs) p.0 in
    let r = and_parts (not (padded bs)) (ltb (onward 0 bs) (2 ^ 64)) p.1 in
    record { some = ltb-true _ _ q.0; digits = q.1; bare = not-true _ r.0; small = ltb-true _ _ r.1 }

pub numeral_from_plain : (bs : List ℕ) → Plain bs → numeral bs ≡ true
numeral_from_plain bs p =
    and_from _ _ (and_from _ _ (lt-ltb _ _ p.some) p.digits) (and_from _ _ (not_from_false _ p.bare) (lt-ltb _ _ p.small))

pub number_from_plain : (bs : List ℕ) → Plain bs → number bs ≡ Some (onward 0 bs)
number_from_plain bs p = cond-true _ _ _ (numeral_from_plain bs p)

pub number_none : (bs : List ℕ) → (Plain bs → ⊥) → number bs ≡ None
number_none bs h =
    elim (cases_Bool (numeral bs)) [
      | inl e ↦ absurd (h (plain_from_numeral bs e))
      | inr e ↦ cond-false _ _ _ e
    ]

-- a number is read from a plain numeral alone
pub plain_from_number : (bs : List ℕ) (n : ℕ) → number bs ≡ Some n → Plain bs × (onward 0 bs ≡ n)
plain_from_number bs n e =
    elim (cases_Bool (numeral bs)) [
      | inl t ↦ (let p = plain_from_numeral bs t in let q = number_from_plain bs p in (p, cc))
      | inr t ↦ (let q : number bs ≡ None = cond-false _ _ _ t in let z : ◌≡◌ {A = ℕ} 0 1 = cc in absurd (omega arith))
    ]

pub utf8_from_plain : (bs : List ℕ) → Plain bs → IsUtf8 bs
utf8_from_plain bs p = IsUtf8-from_ascii bs (IsAscii-from_digits bs (own.to bs p.digits))

-- what a field is parsed as, where nothing but digits can stand in front
pub number_parsed : {E : Type 0} (Why Also : List ℕ → Result ℕ E → Type 0) (bs : List ℕ) (r : Option ℕ) → MatchOption r (ParsesNone {E = E} (λ s x. ParsesUnsigned 64 10 s x × Why s x × Also s x) bs) (λ n. ParsesUnsigned {E = E} 64 10 bs (Ok n) × Why bs (Ok n) × Also bs (Ok n)) → (get_or bs 0 0 ≡ 43 → ⊥) → padded bs ≡ false → r ≡ number bs
number_parsed {E = E} Why Also bs (Some n) h sign bare =
    let p = parse_plain own {E = E} 64 bs (Ok n) h.0 sign in
    ap (λ m. Some m) p.1 ∙ sym (number_from_plain bs (record { some = p.0.1; digits = p.0.0; bare = bare; small = p.0.2 }))
number_parsed {E = E} Why Also bs None h sign bare =
    sym (number_none bs (λ q.
    let refused = h (utf8_from_plain bs q) in
    parse_plain own {E = E} 64 bs (Err refused.0) refused.1.0 sign (q.digits, q.some, q.small)))

-- a plus sign in front is no digit
pub number_signed : (bs : List ℕ) → get_or bs 0 0 ≡ 43 → number bs ≡ None
number_signed [] e = refl
number_signed (c ∷ cs) e = number_none (c ∷ cs) (λ p. absurd (omega (arith, digit_at (c ∷ cs) 0 (own.to (c ∷ cs) p.digits) (omega (arith, p.some)))))

padded_none : (bs : List ℕ) → (get_or bs 0 0 ≡ 48 → length bs ≡ 1) → padded bs ≡ false
padded_none [] h = refl
padded_none (c ∷ []) h = refl
padded_none (c ∷ d ∷ ds) h = ne_eqb c 48 (λ e. absurd (omega (arith, h e)))

alone : (bs : List ℕ) → padded bs ≡ false → 0 < length bs → get_or bs 0 0 ≡ 48 → length bs ≡ 1
alone [] h some e = absurd (omega arith)
alone (c ∷ []) h some e = refl
alone (c ∷ d ∷ ds) h some e = absurd (eqb-false c 48 h e)

bare_decimal : (n : ℕ) → n < 2 ^ 64 → padded (decimal n) ≡ false
bare_decimal n small =
    padded_none (decimal n) (λ e. elim (cases_lt 0 n) [
      | inl some ↦ absurd (omega (arith, first_decimal n some small))
      | inr none ↦ ap length (decimal_digit n (omega arith))
    ])

plain_decimal : (n : ℕ) → n < 2 ^ 64 → Plain (decimal n)
plain_decimal n small = record {
  some = decimal_nonempty n small;
  digits = digits_decimal own n small;
  bare = bare_decimal n small;
  small = subst (λ m. m < 2 ^ 64) (sym (digits_value-decimal own n small)) small;
}

-- a number of 64 bits is read as it is written
pub number_decimal : (n : ℕ) → n < 2 ^ 64 → number (decimal n) ≡ Some n
number_decimal n small = number_from_plain (decimal n) (plain_decimal n small) ∙ ap (λ m. Some m) (digits_value-decimal own n small)

-- what is read as a number is how that number is written
pub decimal_number : (bs : List ℕ) (n : ℕ) → number bs ≡ Some n → (bs ≡ decimal n) × (n < 2 ^ 64)
decimal_number bs n e =
    let p = plain_from_number bs n e in
    let q = p.0 in
    (sym (decimal-digits_value own bs q.digits q.some (alone bs q.bare q.some) q.small) ∙ ap decimal p.1, subst (λ m. m < 2 ^ 64) p.1 q.small)

-- a written number has no byte but digits
pub lacks_in_decimal : (m n : ℕ) → m < 48 → n < 2 ^ 64 → LacksByte m (decimal n)
lacks_in_decimal m n low small = not_in_digits own (decimal n) m (digits_decimal own n small) (λ h. absurd (omega (arith, h.0)))

-- one digit more
pub length_decimal_step : (n : ℕ) → 10 ≤ n → n < 2 ^ 64 → length (decimal n) ≡ length (decimal (n / 10)) + 1
length_decimal_step n h small = ap length (decimal_step n h small) ∙ length-append (decimal (n / 10)) _

-- a number of 64 bits has at most twenty digits
pub length_decimal : (n : ℕ) → n < 2 ^ 64 → length (decimal n) ≤ 20
length_decimal n small = length-decimal-le 20 n (omega arith) (omega arith) small
