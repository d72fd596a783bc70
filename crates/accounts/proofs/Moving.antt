-- What moving epochs from one account to another does to the tallies. Assumes nothing.
use Rattle.std.proofs.Common.{◌≡◌, ℕ, suc, ◌+◌, Bool, true, false, cond, ◌&&◌, List, [], ◌∷◌, length, sym, refl, ap, ◌∙◌, ap₂, true≢false, arith}
use Rattle.semantics.specs.declared.row.Ended.{Ended}
use Rattle.accounts.specs.Accounts.{Account, Open, Owed, Waiting, Judged, Dropped, Entry, is, same, alter}
use Rattle.accounts.specs.Lists.{one_if, count}
use Rattle.accounts.proofs.Counting.{count_like}

-- How many epochs of an account, or of some accounts, have a row that passes a test.
abbrev pub tally : Account → (Ended → Bool) → List Entry → ℕ
tally a p es = count (λ e. is a e && p e.row) es

abbrev pub tallies : (Account → Bool) → (Ended → Bool) → List Entry → ℕ
tallies A p es = count (λ e. A e.account && p e.row) es

pub count_alter : (p q : Entry → Bool) (f : Entry → Entry) (es : List Entry) → count p (alter q f es) ≡ count (λ e. cond (q e) (p (f e)) (p e)) es
count_alter p q f [] = refl
count_alter p q f (e ∷ es) = by (q e) (count_alter p q f es)
  where
    by : (b : Bool) → count p (alter q f es) ≡ count (λ e. cond (q e) (p (f e)) (p e)) es → one_if (p (cond b (f e) e)) + count p (alter q f es) ≡ one_if (cond b (p (f e)) (p e)) + count (λ e. cond (q e) (p (f e)) (p e)) es
    by true i = ap (λ n. one_if (p (f e)) + n) i
    by false i = ap (λ n. one_if (p e) + n) i

pub length_alter : (q : Entry → Bool) (f : Entry → Entry) (es : List Entry) → length (alter q f es) ≡ length es
length_alter q f [] = refl
length_alter q f (e ∷ es) = ap suc (length_alter q f es)

pub same_refl : (a : Account) → same a a ≡ true
same_refl Open = refl
same_refl Owed = refl
same_refl Waiting = refl
same_refl Judged = refl
same_refl Dropped = refl

pub same_true : (a b : Account) → same a b ≡ true → b ≡ a
same_true Open Open e = refl
same_true Open Owed e = absurd (true≢false (sym e))
same_true Open Waiting e = absurd (true≢false (sym e))
same_true Open Judged e = absurd (true≢false (sym e))
same_true Open Dropped e = absurd (true≢false (sym e))
same_true Owed Open e = absurd (true≢false (sym e))
same_true Owed Owed e = refl
same_true Owed Waiting e = absurd (true≢false (sym e))
same_true Owed Judged e = absurd (true≢false (sym e))
same_true Owed Dropped e = absurd (true≢false (sym e))
same_true Waiting Open e = absurd (true≢false (sym e))
same_true Waiting Owed e = absurd (true≢false (sym e))
same_true Waiting Waiting e = refl
same_true Waiting Judged e = absurd (true≢false (sym e))
same_true Waiting Dropped e = absurd (true≢false (sym e))
same_true Judged Open e = absurd (true≢false (sym e))
same_true Judged Owed e = absurd (true≢false (sym e))
same_true Judged Waiting e = absurd (true≢false (sym e))
same_true Judged Judged e = refl
same_true Judged Dropped e = absurd (true≢false (sym e))
same_true Dropped Open e = absurd (true≢false (sym e))
same_true Dropped Owed e = absurd (true≢false (sym e))
same_true Dropped Waiting e = absurd (true≢false (sym e))
same_true Dropped Judged e = absurd (true≢false (sym e))
same_true Dropped Dropped e = refl

and_no : (x : Bool) → one_if (x && false) ≡ 0
and_no true = refl
and_no false = refl

-- Epochs of the account a that pass a test t go to the account b, with their rows changed by f.
module _ (a b : Account) (t : Ended → Bool) (q : Entry → Bool) (g : Entry → Entry) (f : Ended → Ended)
    (qs : (e : Entry) → q e ≡ (is a e && t e.row)) (gb : (e : Entry) → (g e).account ≡ b) (gr : (e : Entry) → (g e).row ≡ f e.row) where
  at_row : (A : Account → Bool) (p : Ended → Bool) (e : Entry)
      → one_if (A (cond (q e) (g e) e).account && p (cond (q e) (g e) e).row) + one_if (is a e && (A a && (t e.row && p e.row)))
      ≡ one_if (A e.account && p e.row) + one_if (is a e && (A b && (t e.row && p (f e.row))))
  at_row A p e = by (q e) refl (is a e) refl (t e.row) refl
    where
      by : (u : Bool) → q e ≡ u → (x : Bool) → is a e ≡ x → (y : Bool) → t e.row ≡ y
          → one_if (A (cond u (g e) e).account && p (cond u (g e) e).row) + one_if (x && (A a && (y && p e.row)))
          ≡ one_if (A e.account && p e.row) + one_if (x && (A b && (y && p (f e.row))))
      by true eu true ex true ey =
          let h1 : A (g e).account ≡ A b = ap A (gb e) in
          let h2 : p (g e).row ≡ p (f e.row) = ap p (gr e) in
          let h3 : A e.account ≡ A a = ap A (same_true a e.account ex) in
          let h4 : one_if (A (g e).account && p (g e).row) ≡ one_if (A b && p (f e.row)) = ap₂ (λ u v. one_if (u && v)) h1 h2 in
          let h5 : one_if (A e.account && p e.row) ≡ one_if (A a && p e.row) = ap (λ u. one_if (u && p e.row)) h3 in
          omega arith
      by true eu true ex false ey = absurd (true≢false (sym eu ∙ qs e ∙ ap₂ ◌&&◌ ex ey))
      by true eu false ex true ey = absurd (true≢false (sym eu ∙ qs e ∙ ap₂ ◌&&◌ ex ey))
      by true eu false ex false ey = absurd (true≢false (sym eu ∙ qs e ∙ ap₂ ◌&&◌ ex ey))
      by false eu true ex true ey = absurd (true≢false (sym (sym eu ∙ qs e ∙ ap₂ ◌&&◌ ex ey)))
      by false eu true ex false ey = let h1 = and_no (A a) in let h2 = and_no (A b) in omega arith
      by false eu false ex true ey = refl
      by false eu false ex false ey = refl

  pub moved : (A : Account → Bool) (p : Ended → Bool) (es : List Entry)
      → tallies A p (alter q g es) + tally a (λ r. A a && (t r && p r)) es ≡ tallies A p es + tally a (λ r. A b && (t r && p (f r))) es
  moved A p [] = refl
  moved A p (e ∷ es) = let i = moved A p es in let h = at_row A p e in omega arith

  pub none_of : (p : Ended → Bool) (es : List Entry) → tally a (λ r. false && p r) es ≡ 0
  none_of p es = count_like _ (λ _. false) es (λ e. by (is a e)) ∙ zero_of es
    where
      by : (x : Bool) → (x && false) ≡ false
      by true = refl
      by false = refl

      zero_of : (es : List Entry) → count (λ _. false) es ≡ 0
      zero_of [] = refl
      zero_of (e ∷ es) = let i = zero_of es in omega arith

  -- other accounts
  pub stay : (A : Account → Bool) (p : Ended → Bool) (es : List Entry) → A a ≡ false → A b ≡ false → tallies A p (alter q g es) ≡ tallies A p es
  stay A p es na nb =
      let m = moved A p es in
      let x : tally a (λ r. A a && (t r && p r)) es ≡ 0 = ap (λ u. tally a (λ r. u && (t r && p r)) es) na ∙ none_of (λ r. t r && p r) es in
      let y : tally a (λ r. A b && (t r && p (f r))) es ≡ 0 = ap (λ u. tally a (λ r. u && (t r && p (f r))) es) nb ∙ none_of (λ r. t r && p (f r)) es in
      omega arith

  -- the account that they leave
  pub leave : (A : Account → Bool) (p : Ended → Bool) (es : List Entry) → A a ≡ true → A b ≡ false → tallies A p (alter q g es) + tally a (λ r. t r && p r) es ≡ tallies A p es
  leave A p es na nb =
      let m = moved A p es in
      let x : tally a (λ r. A a && (t r && p r)) es ≡ tally a (λ r. t r && p r) es = ap (λ u. tally a (λ r. u && (t r && p r)) es) na in
      let y : tally a (λ r. A b && (t r && p (f r))) es ≡ 0 = ap (λ u. tally a (λ r. u && (t r && p (f r))) es) nb ∙ none_of (λ r. t r && p (f r)) es in
      omega arith

  -- the account that they join
  pub join : (A : Account → Bool) (p : Ended → Bool) (es : List Entry) → A a ≡ false → A b ≡ true → tallies A p (alter q g es) ≡ tallies A p es + tally a (λ r. t r && p (f r)) es
  join A p es na nb =
      let m = moved A p es in
      let x : tally a (λ r. A a && (t r && p r)) es ≡ 0 = ap (λ u. tally a (λ r. u && (t r && p r)) es) na ∙ none_of (λ r. t r && p r) es in
      let y : tally a (λ r. A b && (t r && p (f r))) es ≡ tally a (λ r. t r && p (f r)) es = ap (λ u. tally a (λ r. u && (t r && p (f r))) es) nb in
      omega arith

  -- accounts among which they move
  pub within : (A : Account → Bool) (p : Ended → Bool) (es : List Entry) → A a ≡ true → A b ≡ true → ((r : Ended) → p (f r) ≡ p r) → tallies A p (alter q g es) ≡ tallies A p es
  within A p es na nb pf =
      let m = moved A p es in
      let x : tally a (λ r. A a && (t r && p r)) es ≡ tally a (λ r. t r && p r) es = ap (λ u. tally a (λ r. u && (t r && p r)) es) na in
      let y : tally a (λ r. A b && (t r && p (f r))) es ≡ tally a (λ r. t r && p (f r)) es = ap (λ u. tally a (λ r. u && (t r && p (f r))) es) nb in
      let z : tally a (λ r. t r && p (f r)) es ≡ tally a (λ r. t r && p r) es = count_like _ _ es (λ e. ap (λ u. is a e && (t e.row && u)) (pf e.row)) in
      omega arith
