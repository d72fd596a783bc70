-- The account of each epoch of a trace, from the calls and their answers alone. Assumes nothing.
-- An epoch is open from its begin, owed from its end, waiting from its report, judged once its judging finds no fault; or dropped while it is owed.
use Rattle.std.specs.Prelude.{ℕ, zero, suc, ◌+◌, Bool, true, false, cond, not, ◌&&◌, ◌||◌, List, [], ◌∷◌, ◌++◌, ◌==◌, nat_lt, map}
use Rattle.std.specs.List.{filter}
use Rattle.semantics.specs.declared.row.Ended.{Ended}
use Rattle.semantics.specs.Calls.{Answer, taken, refused, convicted}
use Rattle.semantics.specs.Calls
use Rattle.semantics.specs.Trace.{Trace}
use Rattle.accounts.specs.Deeds.{Deed, begins, ends, reports, drops, judges, nothing, deed}
use Rattle.accounts.specs.Lists.{one_if, count, there_is}

pub data Account : Type 0 where
  Open Owed Waiting Judged Dropped : Account

abbrev pub same : Account → Account → Bool
same Open a = elim a [ Open ↦ true | Owed ↦ false | Waiting ↦ false | Judged ↦ false | Dropped ↦ false ]
same Owed a = elim a [ Open ↦ false | Owed ↦ true | Waiting ↦ false | Judged ↦ false | Dropped ↦ false ]
same Waiting a = elim a [ Open ↦ false | Owed ↦ false | Waiting ↦ true | Judged ↦ false | Dropped ↦ false ]
same Judged a = elim a [ Open ↦ false | Owed ↦ false | Waiting ↦ false | Judged ↦ true | Dropped ↦ false ]
same Dropped a = elim a [ Open ↦ false | Owed ↦ false | Waiting ↦ false | Judged ↦ false | Dropped ↦ true ]

-- An epoch of the trace: its account, and what is known of it.
pub record Entry : Type 0 where
  pub account : Account
  pub row : Ended

-- The epochs begun, in order of beginning; and the judged, in order of judging.
pub record Log : Type 0 where
  pub epochs : List Entry
  pub judgings : List Ended

abbrev pub is : Account → Entry → Bool
is a e = same a e.account

abbrev pub stand : Account → Entry → Entry
stand a e = record { account = a; row = e.row }

-- The epochs, with those that pass a test changed.
abbrev pub alter : (Entry → Bool) → (Entry → Entry) → List Entry → List Entry
alter q f [] = []
alter q f (e ∷ es) = cond (q e) (f e) e ∷ alter q f es

-- The open epoch of a thread and place; it ends, and is owed.
abbrev pub open_at : ℕ → ℕ → Entry → Bool
open_at t p e = is Open e && (e.row.thread == t && e.row.place == p)

abbrev pub finish : (number value time : ℕ) → Ended → Ended
finish n v τ r = record { from = r.from; number = n; thread = r.thread; writes = r.writes; place = r.place; until = τ; start = r.start; last = v }

abbrev pub finished : (number value time : ℕ) → Entry → Entry
finished n v τ e = record { account = Owed; row = finish n v τ e.row }

abbrev pub owed_under : ℕ → Entry → Bool
owed_under n e = is Owed e && e.row.number == n

-- By begin, then by number.
abbrev pub sooner : Ended → Ended → Bool
sooner x y = nat_lt x.from y.from || (x.from == y.from && nat_lt x.number y.number)

-- The next to be judged is the waiting one that no waiting one is sooner than.
abbrev pub next : List Entry → Entry → Bool
next es e = is Waiting e && not (there_is (λ x. is Waiting x && sooner x.row e.row) es)

abbrev pub judge_next : Log → Log
judge_next l = record {
  epochs = alter (next l.epochs) (stand Judged) l.epochs;
  judgings = l.judgings ++ map (λ e. e.row) (filter (next l.epochs) l.epochs);
}

abbrev pub judge_many : ℕ → Log → Log
judge_many zero l = l
judge_many (suc k) l = judge_many k (judge_next l)

-- How many of the waiting are sooner than the one of a number.
abbrev pub ahead_of : ℕ → List Entry → ℕ
ahead_of n es = count (λ e. is Waiting e && there_is (λ x. is Waiting x && (x.row.number == n && sooner e.row x.row)) es) es

-- How many a settle or a close judged: a settle answers it; a clean close judged all; a conviction names the one at which it stopped.
abbrev pub how_many : List Entry → Answer → ℕ
how_many es (taken k) = k
how_many es Calls.clean = count (is Waiting) es
how_many es (refused r) = 0
how_many es (convicted c) = ahead_of c.number es

abbrev pub with_epochs : Log → List Entry → Log
with_epochs l es = record { epochs = es; judgings = l.judgings }

-- The log after one deed more.
abbrev pub note : Log → Deed → Log
note l (begins r) = with_epochs l (l.epochs ++ (record { account = Open; row = r } ∷ []))
note l (ends t p n v τ) = with_epochs l (alter (open_at t p) (finished n v τ) l.epochs)
note l (reports n) = with_epochs l (alter (owed_under n) (stand Waiting) l.epochs)
note l (drops n) = with_epochs l (alter (owed_under n) (stand Dropped) l.epochs)
note l (judges a) = judge_many (how_many l.epochs a) l
note l nothing = l

abbrev pub nothing_begun : Log
nothing_begun = record { epochs = []; judgings = [] }

abbrev pub log : Trace → Log
log [] = nothing_begun
log (e ∷ tr) = note (log tr) (deed e.call e.answer)

abbrev pub epochs : Trace → List Entry
epochs tr = (log tr).epochs

abbrev pub judgings : Trace → List Ended
judgings tr = (log tr).judgings

-- How many epochs stand in an account.
abbrev pub size : Account → Trace → ℕ
size a tr = count (is a) (epochs tr)

-- How many epochs a deed puts into an account, and how many the whole trace put there.
abbrev pub puts_into : Account → List Entry → Deed → ℕ
puts_into a es (begins r) = one_if (same a Open)
puts_into a es (ends t p n v τ) = one_if (same a Owed)
puts_into a es (reports n) = one_if (same a Waiting)
puts_into a es (drops n) = one_if (same a Dropped)
puts_into a es (judges x) = cond (same a Judged) (how_many es x) 0
puts_into a es nothing = 0

abbrev pub put_into : Account → Trace → ℕ
put_into a [] = 0
put_into a (e ∷ tr) = puts_into a (epochs tr) (deed e.call e.answer) + put_into a tr
