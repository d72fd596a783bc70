-- A kind of event is read from just the bytes of its word. Assumes nothing.
use Rattle.std.proofs.Common.{◌≡◌, ℕ, true, List, Some, None, codes, IsUtf8, refl}
use lib.Utf8.{encode}
use Rattle.std.specs.Str.Iter.{LacksByte}
use Rattle.fields.proofs.Lacking.{without, lacks_from_without}
use Rattle.fields.proofs.Spelling.{among_none, spelled_among}
use Rattle.event.specs.declared.event.EventKind.{EventKind}
use Rattle.event.specs.declared.event.EventKind.TheVariants.{Preset, Commit, Perform, Advance, Begin, End, Settle, Close}
use Rattle.event.specs.Kinds.{word_of, kinds, kind_named}

pub utf8_word : (k : EventKind) → IsUtf8 (word_of k)
unfolding encode
utf8_word Preset = (codes "preset", (refl, refl))
utf8_word Commit = (codes "commit", (refl, refl))
utf8_word Perform = (codes "perform", (refl, refl))
utf8_word Advance = (codes "advance", (refl, refl))
utf8_word Begin = (codes "begin", (refl, refl))
utf8_word End = (codes "end", (refl, refl))
utf8_word Settle = (codes "settle", (refl, refl))
utf8_word Close = (codes "close", (refl, refl))

pub kind_none : (bs : List ℕ) → ((k : EventKind) → bs ≡ word_of k → ⊥) → kind_named bs ≡ None
kind_none bs no_word = among_none word_of kinds bs no_word

pub kind_word : (k : EventKind) → kind_named (word_of k) ≡ Some k
kind_word Preset = refl
kind_word Commit = refl
kind_word Perform = refl
kind_word Advance = refl
kind_word Begin = refl
kind_word End = refl
kind_word Settle = refl
kind_word Close = refl

-- a kind that is named is the one whose word it is
pub word_kind : (bs : List ℕ) (k : EventKind) → kind_named bs ≡ Some k → bs ≡ word_of k
word_kind bs k e = spelled_among word_of kinds bs k e

word_without : (k : EventKind) → (without 32 (word_of k) ≡ true) × (without 10 (word_of k) ≡ true)
word_without Preset = (refl, refl)
word_without Commit = (refl, refl)
word_without Perform = (refl, refl)
word_without Advance = (refl, refl)
word_without Begin = (refl, refl)
word_without End = (refl, refl)
word_without Settle = (refl, refl)
word_without Close = (refl, refl)

-- no word has a space or a line feed
pub spaceless_word : (k : EventKind) → LacksByte 32 (word_of k)
spaceless_word k = lacks_from_without 32 (word_of k) (word_without k).0

pub feedless_word : (k : EventKind) → LacksByte 10 (word_of k)
feedless_word k = lacks_from_without 10 (word_of k) (word_without k).1
