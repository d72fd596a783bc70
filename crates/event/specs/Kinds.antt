-- The words that name events. Assumes nothing.
use Rattle.std.specs.Prelude.{ℕ, List, [], ◌∷◌, codes, Option}
use Rattle.fields.specs.Words.{among}
use Rattle.event.specs.declared.event.EventKind.{EventKind}
use Rattle.event.specs.declared.event.EventKind.TheVariants.{Preset, Commit, Perform, Advance, Begin, End, Settle, Close}

-- The bytes of a kind's word.
abbrev pub word_of : EventKind → List ℕ
word_of Preset = codes "preset"
word_of Commit = codes "commit"
word_of Perform = codes "perform"
word_of Advance = codes "advance"
word_of Begin = codes "begin"
word_of End = codes "end"
word_of Settle = codes "settle"
word_of Close = codes "close"

abbrev pub kinds : List EventKind
kinds = Preset ∷ Commit ∷ Perform ∷ Advance ∷ Begin ∷ End ∷ Settle ∷ Close ∷ []

-- The kind that a word names, if it names one.
abbrev pub kind_named : List ℕ → Option EventKind
kind_named bs = among word_of kinds bs
