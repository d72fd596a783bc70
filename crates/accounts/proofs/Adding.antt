-- What each call puts into an account it takes from the account before. Assumes nothing.
use Rattle.std.proofs.Common.{◌≡◌, ℕ, ◌+◌, Bool, true, false, cond, ◌&&◌, ◌||◌, eqb, List, [], ◌∷◌, take, Some, sym, refl, subst, arith}
use Rattle.std.proofs.lemmas.List.{length-take-le}
use Rattle.semantics.specs.declared.row.Epoch.{Epoch}
use Rattle.semantics.specs.declared.row.Ended.{Ended}
use Rattle.semantics.specs.Calls.{Call, begin, end}
use Rattle.semantics.specs.Effect.{Outcome}
use Rattle.semantics.specs.Laws.{Precedes}
use Rattle.semantics.specs.State.{State, thread_of, epoch_at, owed_as}
use Rattle.semantics.specs.Step.{step}
use Rattle.accounts.specs.Accounts.{Account, Open, Owed, Waiting, Judged, Dropped, Entry, Log, same, stand, finish, finished, open_at, owed_under, alter, judge_many, note, puts_into}
use Rattle.accounts.specs.Deeds.{Deed, begins, ends, reports, drops, nothing, opened, deed}
use Rattle.accounts.specs.Lists.{one_if}
use Rattle.accounts.proofs.Books.{Books, any}
use Rattle.accounts.proofs.Counting.{count_all}
use Rattle.accounts.proofs.Entries.{more, same_tally, its_one, join_owed, stay_end, tally_one, joined, stayed}
use Rattle.accounts.proofs.Judging.{ran, noted}
use Rattle.accounts.proofs.Moving.{tally, tallies, leave}
use Rattle.accounts.proofs.Settling.{refused_deed, at_settle, at_settle_break, at_close, at_close_break}
use Rattle.accounts.proofs.Steps.{Passes}
use Rattle.accounts.proofs.Ways.{Ways, by_ways}

-- from one log to the next, f of an account is what was put there
pub record Adds (l l' : Log) (f : Account → ℕ) : Type 0 where
  pub opens : tally Open any l'.epochs + f Owed ≡ tally Open any l.epochs + f Open
  pub owed : tally Owed any l'.epochs + (f Waiting + f Dropped) ≡ tally Owed any l.epochs + f Owed
  pub waiting : tally Waiting any l'.epochs + f Judged ≡ tally Waiting any l.epochs + f Waiting
  pub judged : tally Judged any l'.epochs ≡ tally Judged any l.epochs + f Judged
  pub dropped : tally Dropped any l'.epochs ≡ tally Dropped any l.epochs + f Dropped

-- what a deed puts
abbrev put_by : Log → Deed → Account → ℕ
put_by l d a = puts_into a l.epochs d

none_moved : (l : Log) → Adds l l (put_by l nothing)
none_moved l = record { opens = omega arith; owed = omega arith; waiting = omega arith; judged = omega arith; dropped = omega arith }

both : (es : List Entry) → tallies (λ a. same Waiting a || same Judged a) any es ≡ tally Waiting any es + tally Judged any es
both [] = refl
both (e ∷ es) = let i = both es in let h = one e.account in omega arith
  where
    one : (a : Account) → one_if ((same Waiting a || same Judged a) && true) ≡ one_if (same Waiting a && true) + one_if (same Judged a && true)
    one Open = refl
    one Owed = refl
    one Waiting = refl
    one Judged = refl
    one Dropped = refl

module _ (B : Precedes) (s : State) (l : Log) (b : Books s l) where
  abbrev Adding : Deed → Type 0
  Adding d = Adds l (note l d) (put_by l d)

  abbrev Goal : Call → Outcome → Type 0
  Goal c o = Adding (deed c o.answer)

  at_begin : (t k p v τ : ℕ) → Passes s (begin t k p v τ) → Adding (begins (opened t k p v τ))
  at_begin t k p v τ f = record {
    opens = (let a = more B s l b t k p v τ f (same Open) any in omega arith);
    owed = (let a = same_tally B s l b t k p v τ f (same Owed) any refl in omega arith);
    waiting = (let a = same_tally B s l b t k p v τ f (same Waiting) any refl in omega arith);
    judged = (let a = same_tally B s l b t k p v τ f (same Judged) any refl in omega arith);
    dropped = (let a = same_tally B s l b t k p v τ f (same Dropped) any refl in omega arith);
  }

  at_end : (t p v τ : ℕ) (f : Passes s (end t p v τ)) (e : Epoch) → epoch_at (thread_of s t) p ≡ Some e → Adding (ends t p s.ends v τ)
  at_end t p v τ f e q = record {
    opens = (let a = leave Open Owed (λ r. eqb r.thread t && eqb r.place p) (open_at t p) (finished s.ends v τ) (finish s.ends v τ)
        (λ _. refl) (λ _. refl) (λ _. refl) (same Open) any l.epochs refl refl in
        let c = its_one B s l b t p v τ f e q any in omega arith);
    owed = (let a = join_owed B s l b t p v τ f e q (same Owed) any refl refl in omega arith);
    waiting = (let a = stay_end B s l b t p v τ f e q (same Waiting) any refl refl in omega arith);
    judged = (let a = stay_end B s l b t p v τ f e q (same Judged) any refl refl in omega arith);
    dropped = (let a = stay_end B s l b t p v τ f e q (same Dropped) any refl refl in omega arith);
  }

  left : (n : ℕ) (e : Ended) → owed_as s n ≡ Some e → (a : Account) → same Owed a ≡ false → tally Owed any (alter (owed_under n) (stand a) l.epochs) + 1 ≡ tally Owed any l.epochs
  left n e q a h =
      let x = leave Owed a (λ r. eqb r.number n) (owed_under n) (stand a) (λ r. r) (λ _. refl) (λ _. refl) (λ _. refl) (same Owed) any l.epochs refl h in
      let y = tally_one s l b n e q a any in omega arith

  at_report : (n : ℕ) (e : Ended) → owed_as s n ≡ Some e → Adding (reports n)
  at_report n e q = record {
    opens = (let a = stayed s l b n e q Waiting (same Open) any refl in omega arith);
    owed = (let a = left n e q Waiting refl in omega arith);
    waiting = (let a = joined s l b n e q Waiting (same Waiting) any refl refl in omega arith);
    judged = (let a = stayed s l b n e q Waiting (same Judged) any refl in omega arith);
    dropped = (let a = stayed s l b n e q Waiting (same Dropped) any refl in omega arith);
  }

  at_drop : (n : ℕ) (e : Ended) → owed_as s n ≡ Some e → Adding (drops n)
  at_drop n e q = record {
    opens = (let a = stayed s l b n e q Dropped (same Open) any refl in omega arith);
    owed = (let a = left n e q Dropped refl in omega arith);
    waiting = (let a = stayed s l b n e q Dropped (same Waiting) any refl in omega arith);
    judged = (let a = stayed s l b n e q Dropped (same Judged) any refl in omega arith);
    dropped = joined s l b n e q Dropped (same Dropped) any refl refl;
  }

  -- k were judged
  abbrev Judging : ℕ → State → Log → Type 0
  Judging k s' l' = Adds l l' (λ a. cond (same a Judged) k 0)

  at_judging : (due : Ended → Bool) → Judging (ran due s s.waiting 0).m s (judge_many (ran due s s.waiting 0).m l)
  at_judging due =
      let r = ran due s s.waiting 0 in
      let n = noted s.waiting l r.m r.fits b.queue b.waiting in
      let j : tally Judged any (judge_many r.m l).epochs ≡ tally Judged any l.epochs + r.m =
      (let a = n.judged any in let c = count_all (take r.m s.waiting) in let d = length-take-le r.m s.waiting r.fits in omega arith) in
      record {
        opens = (let a = n.others (same Open) any refl in omega arith);
        owed = (let a = n.others (same Owed) any refl in omega arith);
        waiting = (let a = n.others (λ a. same Waiting a || same Judged a) any refl in let c = both l.epochs in let d = both (judge_many r.m l).epochs in omega arith);
        judged = j;
        dropped = (let a = n.others (same Dropped) any refl in omega arith);
      }

  ways : Ways B s Goal
  ways = record {
    refuses = λ c r. subst Adding (sym (refused_deed c r)) (none_moved l);
    presets = λ _ _ _. none_moved l;
    commits = λ _ _ _ _ _. none_moved l;
    advances = λ _ _ _. none_moved l;
    begins = at_begin;
    performs = λ _ _ _ _ _ _ _. none_moved l;
    perform_breaks = λ _ _ _ _. none_moved l;
    ends = λ t p v τ f e q _. at_end t p v τ f e q;
    end_breaks = λ _ _ _ _ _. none_moved l;
    reports = at_report;
    drop_breaks = λ n e q _. at_drop n e q;
    drops_later = λ n e q _ _. at_drop n e q;
    settles = at_settle s l b Judging (λ due _ _ _. at_judging due);
    settle_breaks = at_settle_break s l b Judging (λ due _ _ _. at_judging due);
    closes = at_close s l b Judging (λ due _ _ _. at_judging due);
    close_breaks = at_close_break s l b Judging (λ due _ _ _. at_judging due);
  }

pub adds_step : (B : Precedes) (s : State) (l : Log) → Books s l → (c : Call) → Adds l (note l (deed c (step B s c).answer)) (put_by l (deed c (step B s c).answer))
adds_step B s l b c = by_ways B s (Goal B s l b) (ways B s l b) c
