-- A test of whether two rows are the same. Assumes nothing.
use Rattle.std.proofs.Common.{◌≡◌, Bool, true, false, ◌&&◌, eqb, sym, refl, true≢false}
use mathlib.Core.Bool.{beq}
use Rattle.std.proofs.lemmas.Bool.{eqb-true, and_parts, and_from}
use Rattle.semantics.specs.declared.row.Ended.{Ended}
use Rattle.accounts.proofs.Counting.{eqb_refl}

beq_true : (a b : Bool) → beq a b ≡ true → a ≡ b
beq_true true true h = refl
beq_true true false h = absurd (true≢false (sym h))
beq_true false true h = absurd (true≢false (sym h))
beq_true false false h = refl

beq_refl : (a : Bool) → beq a a ≡ true
beq_refl true = refl
beq_refl false = refl

pub same_row : Ended → Ended → Bool
same_row a b = eqb a.from b.from && (eqb a.number b.number && (eqb a.thread b.thread && (beq a.writes b.writes && (eqb a.place b.place && (eqb a.until b.until && (eqb a.start b.start && eqb a.last b.last))))))

pub same_row_refl : (a : Ended) → same_row a a ≡ true
unfolding same_row
same_row_refl a = and_from _ _ (eqb_refl a.from) (and_from _ _ (eqb_refl a.number) (and_from _ _ (eqb_refl a.thread) (and_from _ _ (beq_refl a.writes) (and_from _ _ (eqb_refl a.place) (and_from _ _ (eqb_refl a.until) (and_from _ _ (eqb_refl a.start) (eqb_refl a.last)))))))

pub same_row_true : (a b : Ended) → same_row a b ≡ true → a ≡ b
unfolding same_row
same_row_true a b h =
    let h1 = and_parts (eqb a.from b.from) _ h in
    let h2 = and_parts (eqb a.number b.number) _ h1.1 in
    let h3 = and_parts (eqb a.thread b.thread) _ h2.1 in
    let h4 = and_parts (beq a.writes b.writes) _ h3.1 in
    let h5 = and_parts (eqb a.place b.place) _ h4.1 in
    let h6 = and_parts (eqb a.until b.until) _ h5.1 in
    let h7 = and_parts (eqb a.start b.start) (eqb a.last b.last) h6.1 in
    λ i. record { from = eqb-true _ _ h1.0 i; number = eqb-true _ _ h2.0 i; thread = eqb-true _ _ h3.0 i; writes = beq_true a.writes b.writes h4.0 i; place = eqb-true _ _ h5.0 i; until = eqb-true _ _ h6.0 i; start = eqb-true _ _ h7.0 i; last = eqb-true _ _ h7.1 i }
