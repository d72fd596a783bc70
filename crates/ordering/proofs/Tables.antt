-- The table of a set orders just the pairs of the set. Assumes nothing.
use Rattle.std.proofs.Common.{◌≡◌, ℕ, ◌+◌, ◌/◌, ◌%◌, ◌<◌, Bool, true, false, cond, not, ◌||◌, eqb, leb, length, get_or, sym, refl, ap, ◌∙◌, subst, mul_comm, arith}
use Rattle.std.proofs.lemmas.Nat.{div-mul-add, mod-mul-add}
use Rattle.std.proofs.lemmas.List.FromFn.{length-map-range_with_len, get_or-map-range_with_len}
use Rattle.std.proofs.lemmas.Bool.{lt-leb}
use Rattle.ordering.specs.declared.class.Class.{Class}
use Rattle.ordering.specs.Classes.{class_of, number_of}
use Rattle.ordering.specs.Tables.{place_of, table_orders, table_of}
use Rattle.ordering.proofs.Numbers.{class_numbers}

-- The entry of a place in the table of a set.
entry : (Class → Class → Bool) → ℕ → ℕ
entry set place = cond (set (class_of (place / 18)) (class_of (place % 18))) 1 0

-- A pair's place is below 324.
place_below : (first second : Class) → place_of first second < 324
place_below first second = omega (arith, (class_numbers first).0, (class_numbers second).0)

-- A pair's place gives back its first class.
place_first : (first second : Class) → class_of (place_of first second / 18) ≡ first
place_first first second =
    ap (λ n. class_of ((n + number_of second) / 18)) (mul_comm 18 (number_of first))
    ∙ ap class_of (div-mul-add (number_of first) 18 (number_of second) (class_numbers second).0)
    ∙ (class_numbers first).1

-- A pair's place gives back its second class.
place_second : (first second : Class) → class_of (place_of first second % 18) ≡ second
place_second first second =
    ap (λ n. class_of ((n + number_of second) % 18)) (mul_comm 18 (number_of first))
    ∙ ap class_of (mod-mul-add (number_of first) 18 (number_of second) (class_numbers second).0)
    ∙ (class_numbers second).1

-- A byte of 1 or 0 says what it was written for.
byte_says : (b : Bool) → not (eqb (cond b 1 0) 0) ≡ b
byte_says true = refl
byte_says false = refl

-- The table of a set orders just the pairs of the set.
pub written : (set : Class → Class → Bool) (first second : Class) → table_orders (table_of set) first second ≡ set first second
unfolding entry
written set first second =
    let within : place_of first second < 324 = place_below first second in
    let present : leb (length (table_of set)) (place_of first second) ≡ false = lt-leb _ _ (subst (λ n. place_of first second < n) (sym (length-map-range_with_len (entry set) 0 324)) within) in
    let byte : get_or (table_of set) (place_of first second) 0 ≡ entry set (place_of first second) = get_or-map-range_with_len (entry set) 0 324 (place_of first second) (place_of first second) 0 within (omega arith) in
    ap (λ b. b || not (eqb (get_or (table_of set) (place_of first second) 0) 0)) present
    ∙ ap (λ n. not (eqb n 0)) byte
    ∙ byte_says (set (class_of (place_of first second / 18)) (class_of (place_of first second % 18)))
    ∙ ap (λ c. set c (class_of (place_of first second % 18))) (place_first first second)
    ∙ ap (set first) (place_second first second)
