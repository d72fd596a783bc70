-- Reading and writing a line are each other's inverse. Assumes nothing.
use Rattle.std.proofs.Common.{◌≡◌, ℕ, ◌^◌, ◌<◌, List, [], ◌∷◌, Some, None, decimal, Option, sym, refl, ap, ◌∙◌, subst, arith}
use Rattle.std.specs.Str.Iter.{LacksByte}
use Rattle.std.specs.List.{join_with_byte}
use Rattle.std.specs.Option.{ok_or}
use Rattle.event.specs.declared.event.EventKind.{EventKind}
use Rattle.event.specs.declared.event.Row.{Row}
use Rattle.line.specs.declared.fault.Garbled.TheVariants.{FieldCount, Unknown, Number, Unused}
use Rattle.event.specs.Kinds.{word_of, kind_named}
use Rattle.fields.specs.Numbers.{number}
use Rattle.fields.specs.Splits.{split}
use Rattle.line.specs.Columns.{Six, six}
use Rattle.event.specs.Events.{kind_of, row_of}
use Rattle.line.specs.Lines.{fields_of, line_of, row, Fit, ReadsBack, OneLine}
use Rattle.fields.proofs.Stepping.{given_some, then_ok, some_from_ok_or}
use Rattle.event.proofs.Wording.{kind_word, word_kind, spaceless_word}
use Rattle.fields.proofs.Numerals.{number_decimal, decimal_number, lacks_in_decimal}
use Rattle.std.proofs.lemmas.List.Splits.{join_with_byte-slice_split}
use Rattle.fields.proofs.Splitting.{split_front, split_last}
use Rattle.event.proofs.Rows.{event_itself, parts_from_event}

spaceless_decimal : (n : ℕ) → n < 2 ^ 64 → LacksByte 32 (decimal n)
spaceless_decimal n small = lacks_in_decimal 32 n (omega arith) small

split_fields : (n : EventKind) (r : Row) → Fit r → split 32 (join_with_byte 32 (fields_of n r)) ≡ fields_of n r
split_fields n r fit =
    split_front 32 _ _ (spaceless_word n) ∙ ap (λ t. word_of n ∷ t)
    (split_front 32 _ _ (spaceless_decimal _ fit.0) ∙ ap (λ t. decimal r.thread ∷ t)
    (split_front 32 _ _ (spaceless_decimal _ fit.1) ∙ ap (λ t. decimal r.what ∷ t)
    (split_front 32 _ _ (spaceless_decimal _ fit.2) ∙ ap (λ t. decimal r.place ∷ t)
    (split_front 32 _ _ (spaceless_decimal _ fit.3) ∙ ap (λ t. decimal r.value ∷ t)
    (split_last 32 _ (spaceless_decimal _ fit.4))))))

abbrev six_of : EventKind → Row → Six
six_of n r = record { event = word_of n; thread = decimal r.thread; what = decimal r.what; place = decimal r.place; value = decimal r.value; time = decimal r.time }

row_fields : (n : EventKind) (r : Row) → Fit r → row (six_of n r) ≡ Some r
row_fields n r fit = rw (number_decimal _ fit.0, number_decimal _ fit.1, number_decimal _ fit.2, number_decimal _ fit.3, number_decimal _ fit.4) refl

pub reads_back : ReadsBack
reads_back e fit =
    let n = kind_of e in
    let r = row_of e in
    let a : six (split 32 (line_of e)) ≡ Some (six_of n r) = ap six (split_fields n r fit) in
    rw (a, kind_word n, row_fields n r fit, event_itself e) refl

-- the fields that make a row are its numbers as they are written
record Spells (f : Six) (r : Row) : Type 0 where
  thread : (f.thread ≡ decimal r.thread) × (r.thread < 2 ^ 64)
  what : (f.what ≡ decimal r.what) × (r.what < 2 ^ 64)
  place : (f.place ≡ decimal r.place) × (r.place < 2 ^ 64)
  value : (f.value ≡ decimal r.value) × (r.value < 2 ^ 64)
  time : (f.time ≡ decimal r.time) × (r.time < 2 ^ 64)

spells_from_row : (f : Six) (r : Row) → row f ≡ Some r → Spells f r
spells_from_row f r h =
    let a = given_some (number f.thread) _ r h in
    let b = given_some (number f.what) _ r a.1.1 in
    let c = given_some (number f.place) _ r b.1.1 in
    let d = given_some (number f.value) _ r c.1.1 in
    let t = given_some (number f.time) _ r d.1.1 in
    let made : Row = record { thread = a.0; what = b.0; place = c.0; value = d.0; time = t.0 } in
    let last : ◌≡◌ {A = Option Row} (Some made) (Some r) = t.1.1 in
    let is : made ≡ r = cc in
    subst (Spells f) is (record {
      thread = decimal_number _ _ a.1.0;
      what = decimal_number _ _ b.1.0;
      place = decimal_number _ _ c.1.0;
      value = decimal_number _ _ d.1.0;
      time = decimal_number _ _ t.1.0;
    })

abbrev list_of : Six → List (List ℕ)
list_of f = f.event ∷ f.thread ∷ f.what ∷ f.place ∷ f.value ∷ f.time ∷ []

never : {P : Type 0} (f : Six) → ◌≡◌ {A = Option Six} None (Some f) → P
never f e = let z : ◌≡◌ {A = ℕ} 0 1 = cc in absurd (omega arith)

list_from_six : (fs : List (List ℕ)) (f : Six) → six fs ≡ Some f → fs ≡ list_of f
list_from_six [] f e = never f e
list_from_six (n ∷ []) f e = never f e
list_from_six (n ∷ a ∷ []) f e = never f e
list_from_six (n ∷ a ∷ b ∷ []) f e = never f e
list_from_six (n ∷ a ∷ b ∷ c ∷ []) f e = never f e
list_from_six (n ∷ a ∷ b ∷ c ∷ d ∷ []) f e = never f e
list_from_six (n ∷ a ∷ b ∷ c ∷ d ∷ t ∷ []) f e =
    let made : Six = record { event = n; thread = a; what = b; place = c; value = d; time = t } in
    let is : made ≡ f = cc in
    ap list_of is
list_from_six (n ∷ a ∷ b ∷ c ∷ d ∷ t ∷ u ∷ fs) f e = never f e

pub one_line : OneLine
one_line l e h =
    let s = then_ok (ok_or (six (split 32 l)) FieldCount) _ e h in
    let f = s.0 in
    let m = then_ok (ok_or (kind_named f.event) Unknown) _ e s.1.1 in
    let q = then_ok (ok_or (row f) Number) _ e m.1.1 in
    let n = m.0 in
    let r = q.0 in
    let word : f.event ≡ word_of n = word_kind _ _ (some_from_ok_or _ Unknown n m.1.0) in
    let says : Spells f r = spells_from_row f r (some_from_ok_or _ Number r q.1.0) in
    let parts = parts_from_event n r e (some_from_ok_or _ Unused e q.1.1) in
    let fields : list_of f ≡ fields_of n r = λ i. word i ∷ says.thread.0 i ∷ says.what.0 i ∷ says.place.0 i ∷ says.value.0 i ∷ says.time.0 i ∷ [] in
    let whole : fields_of (kind_of e) (row_of e) ≡ split 32 l = (λ i. fields_of (parts.0 i) (parts.1 i)) ∙ sym fields ∙ sym (list_from_six (split 32 l) f (some_from_ok_or _ FieldCount f s.1.0)) in
    (ap (join_with_byte 32) whole ∙ join_with_byte-slice_split 32 l, subst Fit (sym parts.1) (says.thread.1, says.what.1, says.place.1, says.value.1, says.time.1))
