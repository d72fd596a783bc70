-- The kinds of an epoch, and their numbers. Assumes nothing.
use Rattle.std.specs.Prelude.{ℕ, Bool, true, false, cond, Some, None, Option, ◌==◌, nat_lt}
use Rattle.semantics.specs.declared.kind.EpochKind.{EpochKind}
use Rattle.semantics.specs.declared.kind.EpochKind.TheVariants.{Read, Write}
use Rattle.semantics.specs.Limits.{last_kind}

-- The kind of a number: 1 to read and write. Only numbers up to 1 are in use.
abbrev pub kind_of : ℕ → EpochKind
kind_of n = cond (n == 1) Write Read

-- The kind that a begin names by its number, or none where the number is above 1: the test is that of a begin's refusal.
abbrev pub known_kind : ℕ → Option EpochKind
known_kind n = cond (nat_lt last_kind n) None (Some (kind_of n))

-- Whether an epoch of a kind lets its thread write.
abbrev pub kind_writes : EpochKind → Bool
kind_writes Read = false
kind_writes Write = true
