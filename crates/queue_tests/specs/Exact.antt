-- Rows that compare as equal are one. Assumes nothing.
use Rattle.std.specs.Prelude.{ℕ, Bool}
use Rattle.std.proofs.Common.{ap}
use Rattle.std.specs.Ordering.{nat_cmp, bool_cmp, ordering_then}
use Rattle.std.proofs.lemmas.Map.Lookups.{exact_unsigned, exact_pairs}
use Rattle.queue.specs.Order.{IsExact}
use Rattle.queue.specs.Exact.{exact_flags}
use Rattle.queue_tests.specs.declared.alarm.Alarm.{Alarm}
use Rattle.queue_tests.specs.declared.pair.Pair.{Pair}

abbrev pair_of : ℕ × ℕ → Pair
pair_of f = record { 0 = f.0; 1 = f.1 }

pub pair_exact : IsExact (λ (x y : Pair). ordering_then (nat_cmp x.0 y.0) (nat_cmp x.1 y.1))
pair_exact x y h = ap pair_of (exact_pairs _ _ exact_unsigned exact_unsigned (x.0, x.1) (y.0, y.1) h)

abbrev alarm_of : ℕ × (Bool × (ℕ × ℕ)) → Alarm
alarm_of f = record { due = f.0; urgent = f.1.0; line = f.1.1.0; source = f.1.1.1 }

pub alarm_exact : IsExact (λ (x y : Alarm). ordering_then (nat_cmp x.due y.due) (ordering_then (bool_cmp x.urgent y.urgent) (ordering_then (nat_cmp x.line y.line) (nat_cmp x.source y.source))))
alarm_exact x y h =
    ap alarm_of (exact_pairs _ _ exact_unsigned (exact_pairs _ _ exact_flags (exact_pairs _ _ exact_unsigned exact_unsigned)) (x.due, (x.urgent, (x.line, x.source))) (y.due, (y.urgent, (y.line, y.source))) h)
