-- The accounts of every trace that a watch can have met. Assumes nothing.
use Rattle.std.proofs.Common.{◌≡◌, ℕ, zero, suc, ◌+◌, ◌-◌, ◌<◌, ◌≤◌, Bool, true, false, ◌&&◌, eqb, leb, ◌⊎◌, List, [], ◌∷◌, ◌++◌, length, get_or, replicate, sym, refl, ap, ◌∙◌, subst, ap₂, inl, inr, add-one, arith}
use Rattle.std.proofs.lemmas.Bool.{le-ltb, le-leb, lt-leb, cases_lt, cases_order, eq-eqb, ne_eqb}
use Rattle.std.proofs.lemmas.List.{append-nil, length_push}
use Rattle.semantics.specs.Asking.{open_in}
use Rattle.semantics.specs.Calls.{Call}
use Rattle.semantics.specs.Effect.{Outcome}
use Rattle.semantics.specs.Laws.{Rule, Precedes, by_rule}
use Rattle.semantics.specs.State.{State, Thread, idle, made, thread_of}
use Rattle.semantics.specs.Step.{step}
use Rattle.semantics.specs.Trace.{Trace, Follows, new, met, met_with}
use Rattle.accounts.specs.Accounts.{Account, Open, Owed, Waiting, Judged, Dropped, Entry, Log, is, same, stand, finished, open_at, owed_under, next, judge_next, judge_many, how_many, note, nothing_begun, log, epochs, puts_into}
use Rattle.accounts.specs.Deeds.{Deed, begins, ends, reports, drops, judges, nothing, deed}
use Rattle.accounts.specs.Exact.{begun, AccountsAreExact}
use Rattle.accounts.specs.Lists.{count, one_if, below}
use Rattle.accounts.specs.Rows.{number_in, numbers, open_row, RowsAreEpochs, AddsUp, CallsAddUp}
use Rattle.accounts.proofs.Adding.{adds_step}
use Rattle.accounts.proofs.Books.{Books, any}
use Rattle.accounts.proofs.Counting.{count_like, count_two, count_all}
use Rattle.accounts.proofs.Judging.{ran}
use Rattle.accounts.proofs.Matching.{open_each_row, open_each_epoch, match}
use Rattle.accounts.proofs.Moving.{tally, length_alter}
use Rattle.accounts.proofs.Settling.{refused_deed, books_step}
use Rattle.accounts.proofs.Ways.{Ways, by_ways, before_safe, every}

idle_at : (n t : ℕ) → get_or (replicate n idle) t idle ≡ idle
idle_at zero t = refl
idle_at (suc n) zero = refl
idle_at (suc n) (suc t) = idle_at n t

books_new : (n : ℕ) → Books (made n) nothing_begun
books_new n = record {
  opens = λ t p. ap (λ w. count (λ e. p (open_row t e)) w.epochs) (idle_at n t);
  owed = λ p. refl;
  waiting = λ p. refl;
  judgings = λ p. refl;
  judged = refl;
  dropped = refl;
  begins = refl;
  numbers = λ m. sym (ap one_if (le-ltb m 0 (omega arith)));
  places = λ t p. subst (λ x. x ≤ 1) (sym (ap (λ w. count (λ e. eqb e.place p) w.epochs) (idle_at n t))) (omega arith);
  queue = tt;
  order = tt;
  ahead = λ _. tt;
  early = λ _. tt;
}

pub books : (R : Rule) (n : ℕ) {tr : Trace} {s : State} → Follows R n tr s → Books s (log tr)
books R n new = books_new n
books R n (met {tr = tr} {s = s} r c) = books_step (by_rule R) s (log tr) c (books R n r)

-- the numbers handed out
module _ (B : Precedes) (s : State) where
  abbrev Handed : Call → Outcome → Type 0
  Handed c o = below s.ends ++ number_in (deed c o.answer) ≡ below o.state.ends

  nothing_handed : below s.ends ++ [] ≡ below s.ends
  nothing_handed = append-nil (below s.ends)

  handed_ways : Ways B s Handed
  handed_ways = record {
    refuses = λ c r. subst (λ d. below s.ends ++ number_in d ≡ below s.ends) (sym (refused_deed c r)) nothing_handed;
    presets = λ _ _ _. nothing_handed;
    commits = λ _ _ _ _ _. nothing_handed;
    advances = λ _ _ _. nothing_handed;
    begins = λ _ _ _ _ _ _. nothing_handed;
    performs = λ _ _ _ _ _ _ _. nothing_handed;
    perform_breaks = λ _ _ _ _. nothing_handed;
    ends = λ _ _ _ _ _ _ _ _. sym (ap below (add-one s.ends));
    end_breaks = λ _ _ _ _ _. nothing_handed;
    reports = λ _ _ _. nothing_handed;
    drop_breaks = λ _ _ _ _. nothing_handed;
    drops_later = λ _ _ _ _ _. nothing_handed;
    settles = λ _ _. nothing_handed ∙ sym (ap below (ran (before_safe s) s s.waiting 0).ends);
    settle_breaks = λ _ _ _. nothing_handed ∙ sym (ap below (ran (before_safe s) s s.waiting 0).ends);
    closes = λ _ _. nothing_handed ∙ sym (ap below (ran every s s.waiting 0).ends);
    close_breaks = λ _ _ _. nothing_handed ∙ sym (ap below (ran every s s.waiting 0).ends);
  }

handed_out : (R : Rule) (n : ℕ) {tr : Trace} {s : State} → Follows R n tr s → numbers tr ≡ below s.ends
handed_out R n new = refl
handed_out R n (met {s = s} r c) = ap (λ l. l ++ number_in (deed c (step (by_rule R) s c).answer)) (handed_out R n r) ∙ by_ways (by_rule R) s (Handed (by_rule R) s) (handed_ways (by_rule R) s) c

-- the open epochs of all threads
abbrev open_from : ℕ → Entry → Bool
open_from o e = is Open e && leb o e.row.thread

abbrev open_of : ℕ → Entry → Bool
open_of t e = is Open e && (eqb e.row.thread t && true)

none_from : (o : ℕ) (es : List Entry) → ((i : ℕ) → count (open_of (o + i)) es ≡ 0) → count (open_from o) es ≡ 0
none_from o [] h = refl
none_from o (e ∷ es) h = by (is Open e) refl (cases_lt e.row.thread o) (none_from o es (λ i. let k = h i in omega arith))
  where
    by : (x : Bool) → is Open e ≡ x → (e.row.thread < o) ⊎ (o ≤ e.row.thread) → count (open_from o) es ≡ 0 → one_if (x && leb o e.row.thread) + count (open_from o) es ≡ 0
    by false q c i = omega arith
    by true q (inl c) i = ap (λ x. one_if x + count (open_from o) es) (lt-leb o e.row.thread c) ∙ omega arith
    by true q (inr c) i = absurd (
        let k = h (e.row.thread - o) in
        let z : eqb e.row.thread (o + (e.row.thread - o)) ≡ true = eq-eqb e.row.thread (o + (e.row.thread - o)) (omega arith) in
        let w : one_if (open_of (o + (e.row.thread - o)) e) ≡ 1 = ap₂ (λ x y. one_if (x && (y && true))) q z in
        omega arith)

sum_open : (ws : List Thread) (o : ℕ) (es : List Entry) → ((i : ℕ) → length (get_or ws i idle).epochs ≡ count (open_of (o + i)) es) → open_in ws ≡ count (open_from o) es
sum_open [] o es h = sym (none_from o es (λ i. sym (h i)))
sum_open (w ∷ ws) o es h =
    let i = sum_open ws (suc o) es (λ i. h (suc i) ∙ ap (λ n. count (open_of n) es) (let g : o + suc i ≡ suc o + i = omega arith in g)) in
    let a : length w.epochs ≡ count (open_of o) es = h 0 ∙ ap (λ n. count (open_of n) es) (let g : o + 0 ≡ o = omega arith in g) in
    let c = count_two (open_from o) (open_of o) (open_from (suc o)) es (λ e. by (is Open e) e.row.thread) in
    omega arith
  where
    by : (x : Bool) (t : ℕ) → one_if (x && leb o t) ≡ one_if (x && (eqb t o && true)) + one_if (x && leb (suc o) t)
    by false t = omega arith
    by true t = cases (cases_order t o)
      where
        cases : (t ≡ o) ⊎ ((t < o) ⊎ (o < t)) → one_if (leb o t) ≡ one_if (eqb t o && true) + one_if (leb (suc o) t)
        cases (inl g) = ap one_if (le-leb o t (omega arith)) ∙ sym (ap₂ (λ x y. one_if (x && true) + one_if y) (eq-eqb t o g) (lt-leb (suc o) t (omega arith)))
        cases (inr (inl g)) = ap one_if (lt-leb o t g) ∙ sym (ap₂ (λ x y. one_if (x && true) + one_if y) (ne_eqb t o (λ k. omega arith)) (lt-leb (suc o) t (omega arith)))
        cases (inr (inr g)) = ap one_if (le-leb o t (omega arith)) ∙ sym (ap₂ (λ x y. one_if (x && true) + one_if y) (ne_eqb t o (λ k. omega arith)) (le-leb (suc o) t g))

and_true : (x : Bool) → (x && true) ≡ x
and_true true = refl
and_true false = refl

size_is : (a : Account) (es : List Entry) → tally a any es ≡ count (is a) es
size_is a es = count_like _ _ es (λ e. and_true (is a e))

all_open : (es : List Entry) → count (open_from 0) es ≡ count (is Open) es
all_open es = count_like _ _ es (λ e. ap (λ x. is Open e && x) (le-leb 0 e.row.thread (omega arith)) ∙ and_true (is Open e))

in_one : (es : List Entry) → count (is Open) es + (count (is Owed) es + (count (is Waiting) es + (count (is Judged) es + count (is Dropped) es))) ≡ length es
in_one [] = refl
in_one (e ∷ es) = let i = in_one es in let h = one e.account in omega arith
  where
    one : (a : Account) → one_if (same Open a) + (one_if (same Owed a) + (one_if (same Waiting a) + (one_if (same Judged a) + one_if (same Dropped a)))) ≡ 1
    one Open = refl
    one Owed = refl
    one Waiting = refl
    one Judged = refl
    one Dropped = refl

-- the epochs listed are the taken begins
many_long : (k : ℕ) (l : Log) → length (judge_many k l).epochs ≡ length l.epochs
many_long zero l = refl
many_long (suc k) l = many_long k (judge_next l) ∙ length_alter (next l.epochs) (stand Judged) l.epochs

note_long : (l : Log) (d : Deed) → length (note l d).epochs ≡ puts_into Open l.epochs d + length l.epochs
note_long l (begins r) = length_push l.epochs (record { account = Open; row = r }) ∙ omega arith
note_long l (ends t p n v τ) = length_alter (open_at t p) (finished n v τ) l.epochs ∙ omega arith
note_long l (reports n) = length_alter (owed_under n) (stand Waiting) l.epochs ∙ omega arith
note_long l (drops n) = length_alter (owed_under n) (stand Dropped) l.epochs ∙ omega arith
note_long l (judges a) = many_long (how_many l.epochs a) l ∙ omega arith
note_long l nothing = omega arith

listed : (tr : Trace) → length (epochs tr) ≡ begun tr
listed [] = refl
listed (e ∷ tr) = note_long (log tr) (deed e.call e.answer) ∙ ap (λ n. puts_into Open (epochs tr) (deed e.call e.answer) + n) (listed tr)

adds_up : (R : Rule) (n : ℕ) {tr : Trace} {s : State} → Follows R n tr s → AddsUp tr
adds_up R n new = record { opens = refl; owed = refl; waiting = refl; judged = refl; dropped = refl }
adds_up R n (met {tr = tr} {s = s} r c) =
    let i = adds_up R n r in
    let a = adds_step (by_rule R) s (log tr) (books R n r) c in
    record {
      opens = (let x = a.opens in let y = i.opens in let u = size_is Open (epochs tr) in let v = size_is Open (epochs (met_with R s c ∷ tr)) in omega arith);
      owed = (let x = a.owed in let y = i.owed in let u = size_is Owed (epochs tr) in let v = size_is Owed (epochs (met_with R s c ∷ tr)) in omega arith);
      waiting = (let x = a.waiting in let y = i.waiting in let u = size_is Waiting (epochs tr) in let v = size_is Waiting (epochs (met_with R s c ∷ tr)) in omega arith);
      judged = (let x = a.judged in let y = i.judged in let u = size_is Judged (epochs tr) in let v = size_is Judged (epochs (met_with R s c ∷ tr)) in omega arith);
      dropped = (let x = a.dropped in let y = i.dropped in let u = size_is Dropped (epochs tr) in let v = size_is Dropped (epochs (met_with R s c ∷ tr)) in omega arith);
    }

pub calls_add_up : CallsAddUp
calls_add_up R n tr s r = adds_up R n r

pub accounts_are_exact : AccountsAreExact
accounts_are_exact R n tr s r =
    let b = books R n r in
    let es = epochs tr in
    let o : open_in s.threads ≡ count (is Open) es = sum_open s.threads 0 es (λ i. sym (count_all (thread_of s i).epochs) ∙ b.opens i any ∙ ap (λ k. count (open_of k) es) (let g : i ≡ 0 + i = omega arith in g)) ∙ all_open es in
    let w : length s.owed ≡ count (is Owed) es = sym (count_all s.owed) ∙ b.owed any ∙ size_is Owed es in
    let q : length s.waiting ≡ count (is Waiting) es = sym (count_all s.waiting) ∙ b.waiting any ∙ size_is Waiting es in
    let j : s.judged ≡ count (is Judged) es = b.judged ∙ size_is Judged es in
    let d : s.dropped ≡ count (is Dropped) es = b.dropped ∙ size_is Dropped es in
    record {
      counted = λ i. record { «open» = o i; owed = w i; waiting = q i; judged = j i; dropped = d i };
      whole = (let k = in_one es in let g = listed tr in omega arith);
      in_order = b.order;
    }

pub rows_are_epochs : RowsAreEpochs
rows_are_epochs R n tr s r =
    let b = books R n r in
    record {
      opens = open_each_row s (log tr) b;
      opened = open_each_epoch s (log tr) b;
      owed = match tr s b Owed s.owed b.owed refl;
      waiting = match tr s b Waiting s.waiting b.waiting refl;
      judged = match tr s b Judged (log tr).judgings b.judgings refl;
      handed_out = handed_out R n r;
      one_each = b.numbers;
      queue = b.queue;
      begins = b.begins ∙ listed tr;
    }
