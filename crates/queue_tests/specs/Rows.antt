-- The orders of the rows. Assumes nothing.
use Rattle.std.specs.Prelude.{Bool, leb, nat_le}
use Rattle.queue.specs.Fields.{in_turn, flag_le}
use Rattle.queue_tests.specs.declared.alarm.Alarm.{Alarm}
use Rattle.queue_tests.specs.declared.pair.Pair.{Pair}

-- by the first number, then the second
abbrev pub pair_le : Pair → Pair → Bool
pair_le x y = in_turn leb x.0 y.0 (nat_le x.1 y.1)

-- by each field in turn; what is not urgent is before what is
abbrev pub alarm_le : Alarm → Alarm → Bool
alarm_le x y = in_turn leb x.due y.due (in_turn flag_le x.urgent y.urgent (in_turn leb x.line y.line (nat_le x.source y.source)))
