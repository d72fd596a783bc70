use Rattle.fields.proofs.Spelling.{among_from_parse}
use Rattle.event.specs.Kinds.{word_of, kinds}
use Rattle.event.proofs.Wording.{utf8_word}
use Rattle.event.proofs.event.EventKind.from_word.Goals as goal

pub returns : goal.returns
returns c = among_from_parse word_of (record {}) kinds c.args.word.now c.parse_field.result c.parse_field.ensures utf8_word
