-- The order that `cmp` answers is that of the meaning. Assumes nothing.
use Rattle.std.proofs.Common.{◌≡◌, ℕ, ◌<◌, Bool, true, false, leb, nat_le, List, refl, ap, subst, ◌∙◌, Ordering, Less, Equal, Greater, arith}
use Rattle.std.proofs.lemmas.Bool.Decides.{nat_tests}
use Rattle.std.specs.Cmp.{ranks}
use Rattle.std.specs.Ordering.{is_le, MatchOrdering, ordering_then, nat_cmp, bool_cmp}
use Rattle.queue.specs.Fields.{in_turn, flag_le}
use Rattle.queue.specs.Order
use Rattle.std.specs.Cmp.{IsTotalOrder}
use Rattle.queue.specs.Order.{le_by, TotalLe}
use Rattle.queue.proofs.Totals.{Field, number, flag, next, last, whole, total_le}
use Rattle.semantics.specs.declared.row.Ended.{Ended}
use Rattle.semantics.specs.Judging.{ended_le, insert}
use Rattle.semantics.specs.contracts.row.EndedOrd.TheImpl.Laws as order
use Rattle.thread.specs.Extent.{Extent}
use Rattle.ended.specs.Order.{ended_cmp}
use Rattle.ended.specs.Exact.{ended_exact}

last_says : (a b : ℕ) → is_le (nat_cmp a b) ≡ nat_le a b
last_says a b = by (nat_cmp a b) (ranks a b)
  where
    by : (o : Ordering) → MatchOrdering o (a < b) (a ≡ b) (b < a) → is_le o ≡ nat_le a b
    by Less h = grind (arith, nat_tests)
    by Equal h = grind (arith, nat_tests)
    by Greater h = grind (arith, nat_tests)

number_says : (a b : ℕ) (r : Ordering) → is_le (ordering_then (nat_cmp a b) r) ≡ in_turn leb a b (is_le r)
number_says a b r = by (nat_cmp a b) (ranks a b)
  where
    by : (o : Ordering) → MatchOrdering o (a < b) (a ≡ b) (b < a) → is_le (ordering_then o r) ≡ in_turn leb a b (is_le r)
    by Less h = grind (arith, nat_tests)
    by Equal h = grind (arith, nat_tests)
    by Greater h = grind (arith, nat_tests)

flag_says : (a b : Bool) (r : Ordering) → is_le (ordering_then (bool_cmp a b) r) ≡ in_turn flag_le a b (is_le r)
flag_says true true r = refl
flag_says true false r = refl
flag_says false true r = refl
flag_says false false r = refl

pub ended_says : (x y : Ended) → le_by ended_cmp x y ≡ ended_le x y
ended_says x y = simp (number_says, flag_says, last_says) refl

pub insert_says : (x : Ended) (xs : List Ended) → Order.insert (le_by ended_cmp) x xs ≡ insert x xs
insert_says x xs = ap (λ le. Order.insert le x xs) (λ i a b. ended_says a b i)

abbrev Same : Ended → Ended → Type 0
Same x y = (x.from ≡ y.from) × ((x.number ≡ y.number) × ((x.thread ≡ y.thread) × ((x.writes ≡ y.writes) × ((x.place ≡ y.place) × ((x.until ≡ y.until) × ((x.start ≡ y.start) × (x.last ≡ y.last)))))))

all_same : (x y : Ended) → Same x y → x ≡ y
all_same x y h = λ i. record { from = h.0 i; number = h.1.0 i; thread = h.1.1.0 i; writes = h.1.1.1.0 i; place = h.1.1.1.1.0 i; until = h.1.1.1.1.1.0 i; start = h.1.1.1.1.1.1.0 i; last = h.1.1.1.1.1.1.1 i }

-- The fields of a plain row, in turn.
pub by_fields : Field ended_cmp ended_le
by_fields = whole (next number (λ (e : Ended). e.from) (next number (λ e. e.number) (next number (λ e. e.thread) (next flag (λ e. e.writes)
    (next number (λ e. e.place) (next number (λ e. e.until) (next number (λ e. e.start) (last number (λ e. e.last)))))))))
    all_same

-- What `cmp` answers of two rows tells which is at most the other.
pub row_says : (x y : Ended) (r : Ordering) → r ≡ ended_cmp x y → is_le r ≡ ended_le x y
row_says x y r e = ap is_le e ∙ ended_says x y

pub row_cmp_total : IsTotalOrder ended_cmp
row_cmp_total = order.total-law

-- The order of judging is total, and tells all rows apart.
pub ended_total : TotalLe ended_le
ended_total = subst TotalLe (λ i x y. ended_says x y i) (total_le row_cmp_total ended_exact)

-- A span is told by its two ends.
pub span_same : (x y : Extent) → x.begin ≡ y.begin → x.end ≡ y.end → x ≡ y
span_same x y p q = λ i. record { begin = p i; end = q i }
