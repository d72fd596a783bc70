-- The names of the ordering rules. Assumes nothing.
use Rattle.std.specs.Prelude.{ℕ, List, [], ◌∷◌, codes, Option}
use Rattle.fields.specs.Words.{among}
use Rattle.setup.specs.declared.setup.RuleName.{RuleName}
use Rattle.setup.specs.declared.setup.RuleName.TheVariants.{Sc, Tso, Pso, Rmo}

-- The bytes of a rule's name.
abbrev pub name_of : RuleName → List ℕ
name_of Sc = codes "sc"
name_of Tso = codes "tso"
name_of Pso = codes "pso"
name_of Rmo = codes "rmo"

abbrev pub rules : List RuleName
rules = Sc ∷ Tso ∷ Pso ∷ Rmo ∷ []

-- The rule that a field names, if it names one.
abbrev pub rule_named : List ℕ → Option RuleName
rule_named bs = among name_of rules bs
