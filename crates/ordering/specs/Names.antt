-- The names of the named rules. Assumes nothing.
use Rattle.std.specs.Prelude.{ℕ, cond, List, [], ◌∷◌, Some, None, codes, Option}
use Rattle.std.specs.Str.{bytes_eq}
use Rattle.ordering.specs.declared.named.NamedRule.{NamedRule}
use Rattle.ordering.specs.declared.named.NamedRule.TheVariants.{Sc, Tso, Pso, Rmo}

-- The bytes of a rule's name.
abbrev pub name_of : NamedRule → List ℕ
name_of Sc = codes "sc"
name_of Tso = codes "tso"
name_of Pso = codes "pso"
name_of Rmo = codes "rmo"

-- The first of some rules that has the name.
abbrev pub named_among : List NamedRule → List ℕ → Option NamedRule
named_among [] bytes = None
named_among (r ∷ rs) bytes = cond (bytes_eq bytes (name_of r)) (Some r) (named_among rs bytes)

-- The rule of a name, or none where no rule has the name.
abbrev pub rule_named : List ℕ → Option NamedRule
rule_named bytes = named_among (Sc ∷ Tso ∷ Pso ∷ Rmo ∷ []) bytes
