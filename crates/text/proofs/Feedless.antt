-- Lines have no line feed. Assumes nothing.
use Rattle.std.proofs.Common.{ℕ, ◌^◌, ◌<◌, List, ◌∷◌, ◌++◌, decimal, arith}
use Rattle.std.specs.Str.Iter.{LacksByte}
use Rattle.fields.proofs.Lacking.{lacks_cons, lacks_append}
use Rattle.fields.proofs.Numerals.{lacks_in_decimal}
use Rattle.event.specs.declared.event.Event.{Event}
use Rattle.event.specs.Events.{kind_of, row_of}
use Rattle.event.specs.Kinds.{word_of}
use Rattle.event.proofs.Wording.{feedless_word}
use Rattle.line.specs.Lines.{line_of, Fit}

-- a space between two parts is no line feed
spaced : (xs ys : List ℕ) → LacksByte 10 xs → LacksByte 10 ys → LacksByte 10 (xs ++ (32 ∷ ys))
spaced xs ys hx hy = lacks_append 10 xs (32 ∷ ys) hx (lacks_cons 10 32 ys (λ e. omega arith) hy)

digits : (n : ℕ) → n < 2 ^ 64 → LacksByte 10 (decimal n)
digits n small = lacks_in_decimal 10 n (omega arith) small

pub feedless_event : (e : Event) → Fit (row_of e) → LacksByte 10 (line_of e)
feedless_event e fit =
    spaced (word_of (kind_of e)) _ (feedless_word (kind_of e))
    (spaced _ _ (digits _ fit.0) (spaced _ _ (digits _ fit.1) (spaced _ _ (digits _ fit.2) (spaced _ _ (digits _ fit.3) (digits _ fit.4)))))
