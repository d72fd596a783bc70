-- The order of judging, as `cmp` answers it. Assumes nothing.
use Rattle.std.specs.declared.cmp.Ordering.{Ordering}
use Rattle.std.specs.Ordering.{nat_cmp, bool_cmp, ordering_then}
use Rattle.semantics.specs.declared.row.Ended.{Ended}

-- By begin, then by number, then by the other fields.
abbrev pub ended_cmp : Ended → Ended → Ordering
ended_cmp x y =
    ordering_then (nat_cmp x.from y.from) (ordering_then (nat_cmp x.number y.number) (ordering_then (nat_cmp x.thread y.thread) (ordering_then (bool_cmp x.writes y.writes)
    (ordering_then (nat_cmp x.place y.place) (ordering_then (nat_cmp x.until y.until) (ordering_then (nat_cmp x.start y.start) (nat_cmp x.last y.last)))))))
