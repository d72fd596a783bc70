-- Rows that compare as equal are one. Assumes nothing.
use Rattle.std.specs.Prelude.{ℕ, Bool}
use Rattle.std.proofs.Common.{ap}
use Rattle.std.proofs.lemmas.Map.Lookups.{exact_unsigned, exact_pairs}
use Rattle.queue.specs.Order.{IsExact}
use Rattle.queue.specs.Exact.{exact_flags}
use Rattle.semantics.specs.declared.row.Ended.{Ended}
use Rattle.ended.specs.Order.{ended_cmp}

abbrev Fields : Type 0
Fields = ℕ × (ℕ × (ℕ × (Bool × (ℕ × (ℕ × (ℕ × ℕ))))))

abbrev fields : Ended → Fields
fields e = (e.from, (e.number, (e.thread, (e.writes, (e.place, (e.until, (e.start, e.last)))))))

abbrev of_fields : Fields → Ended
of_fields f = record { from = f.0; number = f.1.0; thread = f.1.1.0; writes = f.1.1.1.0; place = f.1.1.1.1.0; until = f.1.1.1.1.1.0; start = f.1.1.1.1.1.1.0; last = f.1.1.1.1.1.1.1 }

exact_fields : IsExact (λ (f g : Fields). ended_cmp (of_fields f) (of_fields g))
exact_fields =
    exact_pairs _ _ exact_unsigned (exact_pairs _ _ exact_unsigned (exact_pairs _ _ exact_unsigned (exact_pairs _ _ exact_flags
    (exact_pairs _ _ exact_unsigned (exact_pairs _ _ exact_unsigned (exact_pairs _ _ exact_unsigned exact_unsigned))))))

pub ended_exact : IsExact ended_cmp
ended_exact x y h = ap of_fields (exact_fields (fields x) (fields y) h)
