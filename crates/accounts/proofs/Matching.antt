-- Each row of the watch is that of exactly one epoch of the log. Assumes nothing.
use Rattle.std.proofs.Common.{◌≡◌, ℕ, ◌≤◌, Bool, true, false, ◌&&◌, eqb, ltb, List, [], ◌∷◌, sym, refl, ap, ◌∙◌, true≢false, arith, map}
use Rattle.std.proofs.lemmas.Bool.{eq-eqb, and_parts, and_from, and_right}
use Rattle.semantics.specs.declared.row.Epoch.{Epoch}
use Rattle.semantics.specs.declared.row.Ended.{Ended}
use Rattle.semantics.specs.State.{State, thread_of}
use Rattle.semantics.specs.Trace.{Trace}
use Rattle.accounts.specs.Accounts.{Account, Open, Entry, Log, is, same, log, epochs}
use Rattle.accounts.specs.Lists.{count, one_if, All, Once}
use Rattle.accounts.specs.Rows.{open_row, open_rows, Match}
use Rattle.accounts.proofs.Books.{Books, ended_any}
use Rattle.accounts.proofs.Counting.{one_le, all_both, all_map, all_counted, count_le, count_like, count_map, once_from}
use Rattle.accounts.proofs.Moving.{same_refl, same_true, tally, tallies}
use Rattle.accounts.proofs.SameRow.{same_row, same_row_refl, same_row_true}

-- the test of an account and a row
abbrev its : Account → Ended → Entry → Bool
its a r e = is a e && same_row e.row r

its_true : (a : Account) (r : Ended) (e : Entry) → its a r e ≡ true → e ≡ record { account = a; row = r }
its_true a r e h =
    let q = and_parts (is a e) (same_row e.row r) h in
    let x = same_true a e.account q.0 in
    let y = same_row_true e.row r q.1 in
    λ i. record { account = x i; row = y i }

-- what passes one test passes another
if_then : (x y : Bool) → (x ≡ true → y ≡ true) → one_if x ≤ one_if y
if_then true true f = omega arith
if_then true false f = absurd (true≢false (sym (f refl)))
if_then false y f = omega arith

-- a row of which there are as many as epochs, and at most one
module _ (a : Account) (r : Ended) (rows : List Ended) (es : List Entry) (as_many : count (λ x. same_row x r) rows ≡ tally a (λ x. same_row x r) es) (at_most : tally a (λ x. same_row x r) es ≤ 1) where
  row_once : 1 ≤ count (λ x. same_row x r) rows → Once (record { account = a; row = r }) es
  row_once h = once_from (its a r) (record { account = a; row = r }) es (its_true a r) (and_from _ _ (same_refl a) (same_row_refl r)) (omega arith)

  epoch_once : 1 ≤ tally a (λ x. same_row x r) es → Once r rows
  epoch_once h = once_from (λ x. same_row x r) r rows (λ x. same_row_true x r) (same_row_refl r) (omega arith)

module _ (s : State) (l : Log) (b : Books s l) where
  -- an account of ended epochs
  module _ (a : Account) (rows : List Ended) (as_many : (p : Ended → Bool) → count p rows ≡ tally a p l.epochs) (closed : ended_any a ≡ true) where
    at_most : (r : Ended) → tally a (λ x. same_row x r) l.epochs ≤ 1
    at_most r =
        let k : tally a (λ x. same_row x r) l.epochs ≤ tallies ended_any (λ x. eqb x.number r.number) l.epochs =
        count_le _ _ l.epochs (λ e. if_then (its a r e) _ (λ g. let q = and_parts (is a e) (same_row e.row r) g in
        and_from _ _ (ap ended_any (same_true a e.account q.0) ∙ closed) (eq-eqb _ _ (ap (λ x. x.number) (same_row_true e.row r q.1))))) in
        let n = b.numbers r.number in
        let m = one_le (ltb r.number s.ends) in
        omega arith

    each_row : All (λ r. Once (record { account = a; row = r }) l.epochs) rows
    each_row = all_map rows (λ r c. row_once a r rows l.epochs (as_many (λ x. same_row x r)) (at_most r) (c (λ x. same_row x r) (same_row_refl r))) (all_counted rows)

    each_epoch : All (λ e. e.account ≡ a → Once e.row rows) l.epochs
    each_epoch = all_map l.epochs (λ e c h. epoch_once a e.row rows l.epochs (as_many (λ x. same_row x e.row)) (at_most e.row)
        (c (its a e.row) (and_from _ _ (ap (same a) h ∙ same_refl a) (same_row_refl e.row)))) (all_counted l.epochs)

  -- the open epochs of a thread
  module _ (t : ℕ) (r : Ended) (u : r.thread ≡ t) where
    open_many : count (λ x. same_row x r) (open_rows s t) ≡ tally Open (λ x. same_row x r) l.epochs
    open_many = count_map (λ x. same_row x r) (open_row t) (thread_of s t).epochs ∙ b.opens t (λ x. same_row x r) ∙ count_like _ _ l.epochs (λ e. ap (λ z. is Open e && z) (by e (same_row e.row r) refl))
      where
        by : (e : Entry) (x : Bool) → same_row e.row r ≡ x → (eqb e.row.thread t && same_row e.row r) ≡ same_row e.row r
        by e true h = ap (λ y. y && same_row e.row r) (eq-eqb e.row.thread t (ap (λ x. x.thread) (same_row_true e.row r h) ∙ u))
        by e false h = and_right (eqb e.row.thread t) (same_row e.row r) h ∙ sym h

    open_most : tally Open (λ x. same_row x r) l.epochs ≤ 1
    open_most =
        let k : tally Open (λ x. same_row x r) l.epochs ≤ tally Open (λ x. eqb x.thread t && eqb x.place r.place) l.epochs =
        count_le _ _ l.epochs (λ e. if_then (its Open r e) _ (λ g. let q = and_parts (is Open e) _ g in let w = same_row_true e.row r q.1 in
        and_from _ _ q.0 (and_from _ _ (eq-eqb _ _ (ap (λ x. x.thread) w ∙ u)) (eq-eqb _ _ (ap (λ x. x.place) w))))) in
        let g = b.opens t (λ x. eqb x.place r.place) in
        let m = b.places t r.place in
        omega arith

  pub open_each_row : (t : ℕ) → All (λ r. Once (record { account = Open; row = r }) l.epochs) (open_rows s t)
  open_each_row t = all_map (open_rows s t) (λ r c. row_once Open r (open_rows s t) l.epochs (open_many t r c.0) (open_most t r c.0) (c.1 (λ x. same_row x r) (same_row_refl r)))
      (all_both (λ r. r.thread ≡ t) _ (open_rows s t) (threads (thread_of s t).epochs) (all_counted (open_rows s t)))
    where
      threads : (es : List Epoch) → All (λ r. r.thread ≡ t) (map (open_row t) es)
      threads [] = tt
      threads (e ∷ es) = (refl, threads es)

  pub open_each_epoch : All (λ e. e.account ≡ Open → Once e.row (open_rows s e.row.thread)) l.epochs
  open_each_epoch = all_map l.epochs (λ e c h. epoch_once Open e.row (open_rows s e.row.thread) l.epochs (open_many e.row.thread e.row refl) (open_most e.row.thread e.row refl)
      (c (its Open e.row) (and_from _ _ (ap (same Open) h) (same_row_refl e.row)))) (all_counted l.epochs)

pub match : (tr : Trace) (s : State) (b : Books s (log tr)) (a : Account) (rows : List Ended) → ((p : Ended → Bool) → count p rows ≡ tally a p (epochs tr)) → ended_any a ≡ true → Match a rows tr
match tr s b a rows as_many closed = record { each_row = each_row s (log tr) b a rows as_many closed; each_epoch = each_epoch s (log tr) b a rows as_many closed }
