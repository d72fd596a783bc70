-- A rule is read from just the bytes of its name. Assumes nothing.
use Rattle.std.proofs.Common.{◌≡◌, ℕ, ◌≤◌, true, List, length, Some, codes, IsUtf8, refl, arith}
use lib.Utf8.{encode}
use Rattle.std.specs.Str.Iter.{LacksByte}
use Rattle.fields.proofs.Lacking.{without, lacks_from_without}
use Rattle.fields.proofs.Spelling.{spelled_among}
use Rattle.setup.specs.declared.setup.RuleName.{RuleName}
use Rattle.setup.specs.declared.setup.RuleName.TheVariants.{Sc, Tso, Pso, Rmo}
use Rattle.setup.specs.Rules.{name_of, rules, rule_named}

pub utf8_name : (r : RuleName) → IsUtf8 (name_of r)
unfolding encode
utf8_name Sc = (codes "sc", (refl, refl))
utf8_name Tso = (codes "tso", (refl, refl))
utf8_name Pso = (codes "pso", (refl, refl))
utf8_name Rmo = (codes "rmo", (refl, refl))

pub rule_name : (r : RuleName) → rule_named (name_of r) ≡ Some r
rule_name Sc = refl
rule_name Tso = refl
rule_name Pso = refl
rule_name Rmo = refl

-- a rule that is named is the one whose name it is
pub name_rule : (bs : List ℕ) (r : RuleName) → rule_named bs ≡ Some r → bs ≡ name_of r
name_rule bs r e = spelled_among name_of rules bs r e

pub rule_length : (r : RuleName) → length (name_of r) ≤ 3
rule_length Sc = omega arith
rule_length Tso = omega arith
rule_length Pso = omega arith
rule_length Rmo = omega arith

rule_without : (r : RuleName) → (without 32 (name_of r) ≡ true) × (without 10 (name_of r) ≡ true)
rule_without Sc = (refl, refl)
rule_without Tso = (refl, refl)
rule_without Pso = (refl, refl)
rule_without Rmo = (refl, refl)

-- no rule's name has a space or a line feed
pub spaceless_rule : (r : RuleName) → LacksByte 32 (name_of r)
spaceless_rule r = lacks_from_without 32 (name_of r) (rule_without r).0

pub feedless_rule : (r : RuleName) → LacksByte 10 (name_of r)
feedless_rule r = lacks_from_without 10 (name_of r) (rule_without r).1
