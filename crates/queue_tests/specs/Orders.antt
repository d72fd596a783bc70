-- The orders of the rows are total, and are what the derived `cmp` answers. Assumes nothing.
use Rattle.std.specs.Prelude.{◌≡◌}
use Rattle.std.specs.Ordering.{nat_cmp, bool_cmp, on, then_cmp}
use Rattle.queue.proofs.Totals.{Field, next, last, whole, number, flag}
use Rattle.queue_tests.specs.declared.alarm.Alarm.{Alarm}
use Rattle.queue_tests.specs.declared.pair.Pair.{Pair}
use Rattle.queue_tests.specs.Rows.{alarm_le, pair_le}

all_same : (x y : Alarm) → (x.due ≡ y.due) × ((x.urgent ≡ y.urgent) × ((x.line ≡ y.line) × (x.source ≡ y.source))) → x ≡ y
all_same x y h = λ i. record { due = h.0 i; urgent = h.1.0 i; line = h.1.1.0 i; source = h.1.1.1 i }

pub alarm_order : Field (then_cmp (on (λ (x : Alarm). x.due) nat_cmp) (then_cmp (on (λ x. x.urgent) bool_cmp) (then_cmp (on (λ x. x.line) nat_cmp) (on (λ x. x.source) nat_cmp)))) alarm_le
alarm_order = whole (next number (λ (x : Alarm). x.due) (next flag (λ x. x.urgent) (next number (λ x. x.line) (last number (λ x. x.source))))) all_same

both_same : (x y : Pair) → (x.0 ≡ y.0) × (x.1 ≡ y.1) → x ≡ y
both_same x y h = λ i. record { 0 = h.0 i; 1 = h.1 i }

pub pair_order : Field (then_cmp (on (λ (x : Pair). x.0) nat_cmp) (on (λ x. x.1) nat_cmp)) pair_le
pair_order = whole (next number (λ (x : Pair). x.0) (last number (λ x. x.1))) both_same
