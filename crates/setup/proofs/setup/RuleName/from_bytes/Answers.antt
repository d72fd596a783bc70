use Rattle.fields.proofs.Spelling.{among_from_parse}
use Rattle.setup.specs.Rules.{name_of, rules}
use Rattle.setup.proofs.Ruling.{utf8_name}
use Rattle.setup.proofs.setup.RuleName.from_bytes.Goals as goal

pub returns : goal.returns
returns c = among_from_parse name_of (record {}) rules c.args.field.now c.parse_field.result c.parse_field.ensures utf8_name
