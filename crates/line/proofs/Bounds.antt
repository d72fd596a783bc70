-- How long a line is. Assumes nothing.
use Rattle.std.proofs.Common.{◌≡◌, ℕ, ◌+◌, List, [], ◌∷◌, ◌++◌, length, decimal, ap, ◌∙◌, arith, length-append}
use Rattle.std.specs.List.{join_with_byte}
use Rattle.std.proofs.lemmas.Fmt.{decimal_digit}
use Rattle.event.specs.declared.event.Event.{Event}
use Rattle.event.specs.declared.event.Event.TheVariants as events
use Rattle.event.specs.Kinds.{word_of}
use Rattle.event.specs.Events.{kind_of, row_of}
use Rattle.line.specs.Lines.{line_of, LongestLine}
use Rattle.fields.proofs.Numerals.{length_decimal}

pub length_part : (xs ys : List ℕ) (c : ℕ) → length (xs ++ (c ∷ ys)) ≡ length xs + (length ys + 1)
length_part xs ys c = length-append xs (c ∷ ys) ∙ ap (λ n. length xs + n) (omega arith)

length_row : (n a b c d e : List ℕ) → length (join_with_byte 32 (n ∷ a ∷ b ∷ c ∷ d ∷ e ∷ [])) ≡ length n + length a + length b + length c + length d + length e + 5
length_row n a b c d e =
    omega (arith, length_part n (a ++ (32 ∷ (b ++ (32 ∷ (c ++ (32 ∷ (d ++ (32 ∷ e)))))))) 32, length_part a (b ++ (32 ∷ (c ++ (32 ∷ (d ++ (32 ∷ e)))))) 32, length_part b (c ++ (32 ∷ (d ++ (32 ∷ e)))) 32, length_part c (d ++ (32 ∷ e)) 32, length_part d e 32)

nought : length (decimal 0) ≡ 1
nought = ap length (decimal_digit 0 (omega arith))

length_line : (e : Event) → length (line_of e) ≡ length (word_of (kind_of e)) + length (decimal (row_of e).thread) + length (decimal (row_of e).what) + length (decimal (row_of e).place) + length (decimal (row_of e).value) + length (decimal (row_of e).time) + 5
length_line e = length_row _ _ _ _ _ _

pub longest_line : LongestLine
longest_line (events.Preset place value) fit = omega (arith, nought, length_line (events.Preset place value), length_decimal place fit.2, length_decimal value fit.3)
longest_line (events.Commit thread class place value) fit = omega (arith, nought, length_line (events.Commit thread class place value), length_decimal thread fit.0, length_decimal class fit.1, length_decimal place fit.2, length_decimal value fit.3)
longest_line (events.Perform thread number time) fit = omega (arith, nought, length_line (events.Perform thread number time), length_decimal thread fit.0, length_decimal number fit.1, length_decimal time fit.4)
longest_line (events.Advance thread time) fit = omega (arith, nought, length_line (events.Advance thread time), length_decimal thread fit.0, length_decimal time fit.4)
longest_line (events.Begin thread kind place value time) fit = omega (arith, length_line (events.Begin thread kind place value time), length_decimal thread fit.0, length_decimal kind fit.1, length_decimal place fit.2, length_decimal value fit.3, length_decimal time fit.4)
longest_line (events.End thread place value time) fit = omega (arith, nought, length_line (events.End thread place value time), length_decimal thread fit.0, length_decimal place fit.2, length_decimal value fit.3, length_decimal time fit.4)
longest_line events.Settle fit = omega (arith, nought, length_line events.Settle)
longest_line events.Close fit = omega (arith, nought, length_line events.Close)
