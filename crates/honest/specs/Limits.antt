-- What it means that a list of calls keeps within the limits of a watch. It is said on the calls, not on their answers. Assumes nothing.
use Rattle.std.specs.Prelude.{ℕ, zero, suc, ◌+◌, ◌-◌, ◌<◌, Bool, true, not, ◌&&◌, List, [], ◌∷◌, ◌++◌, length, Some, None, Option, ◌==◌, nat_eq, nat_lt, map}
use Rattle.std.specs.List.{find, filter}
use Rattle.semantics.specs.Calls.{Call, preset, commit, perform, advance, begin, end, report, drop, settle, close}
use Rattle.semantics.specs.Limits.{most_outstanding, most_commits, most_open, most_begins, most_owed, most_waiting}
use Rattle.honest.specs.Machine.{put}

-- An epoch that is open at a place, and a notice that is owed, each with the epoch's begin.
pub record OpenEpoch : Type 0 where
  pub place : ℕ
  pub from : ℕ

pub record Notice : Type 0 where
  pub number : ℕ
  pub from : ℕ

-- What the calls so far leave of a thread: its clock, how many operations it committed and has outstanding, and its open epochs.
pub record ThreadUse : Type 0 where
  pub clock : ℕ
  pub committed : ℕ
  pub outstanding : ℕ
  pub opened : List OpenEpoch

-- What they leave of all: also how many epochs were begun and ended, which notices are owed, and the begins of those that wait.
pub record Use : Type 0 where
  pub threads : ℕ → ThreadUse
  pub begun : ℕ
  pub ended : ℕ
  pub owed : List Notice
  pub waiting : List ℕ

abbrev pub no_use : Use
no_use = record { threads = λ t. record { clock = 0; committed = 0; outstanding = 0; opened = [] }; begun = 0; ended = 0; owed = []; waiting = [] }

-- A thread after a commit, a perform, an advance, a begin, an end.
abbrev pub committing : ThreadUse → ThreadUse
committing w = record { clock = w.clock; committed = w.committed + 1; outstanding = w.outstanding + 1; opened = w.opened }

abbrev pub performing : ℕ → ThreadUse → ThreadUse
performing τ w = record { clock = τ; committed = w.committed; outstanding = w.outstanding - 1; opened = w.opened }

abbrev pub advancing : ℕ → ThreadUse → ThreadUse
advancing τ w = record { clock = τ; committed = w.committed; outstanding = w.outstanding; opened = w.opened }

abbrev pub beginning : ℕ → ℕ → ThreadUse → ThreadUse
beginning p τ w = record { clock = τ; committed = w.committed; outstanding = w.outstanding; opened = w.opened ++ (record { place = p; from = τ } ∷ []) }

abbrev pub ending : ℕ → ℕ → ThreadUse → ThreadUse
ending p τ w = record { clock = τ; committed = w.committed; outstanding = w.outstanding; opened = filter (λ e. not (e.place == p)) w.opened }

abbrev pub put_thread : Use → ℕ → ThreadUse → Use
put_thread a t w = record { threads = put a.threads t w; begun = a.begun; ended = a.ended; owed = a.owed; waiting = a.waiting }

-- When the epoch began that is open at a place, and when that of the notice k.
abbrev pub epoch_from : Option OpenEpoch → ℕ
epoch_from None = 0
epoch_from (Some e) = e.from

abbrev pub opened_from : ℕ → ThreadUse → ℕ
opened_from p w = epoch_from (find (λ e. nat_eq e.place p) w.opened)

abbrev pub notice_from : Option Notice → ℕ
notice_from None = 0
notice_from (Some e) = e.from

abbrev pub owed_from : ℕ → Use → ℕ
owed_from k a = notice_from (find (λ e. nat_eq e.number k) a.owed)

-- Whether a time lies below all of a list.
abbrev pub below_each : ℕ → List ℕ → Bool
below_each x [] = true
below_each x (y ∷ ys) = nat_lt x y && below_each x ys

-- Whether it lies below all clocks and all begins of open epochs of the first n threads.
abbrev pub below_threads : ℕ → ℕ → Use → Bool
below_threads x zero a = true
below_threads x (suc n) a = nat_lt x (a.threads n).clock && (below_each x (map (λ e. e.from) (a.threads n).opened) && below_threads x n a)

-- Whether it lies before the safe time: also below all begins of owed epochs.
abbrev pub before_safe : ℕ → Use → ℕ → Bool
before_safe n a x = below_threads x n a && below_each x (map (λ e. e.from) a.owed)

-- What one call more leaves. The k-th end of the list, from 0, hands out notice k; a settle leaves waiting what does not begin before the safe time.
abbrev pub after : ℕ → Use → Call → Use
after n a (preset p v) = a
after n a (commit t c p v) = put_thread a t (committing (a.threads t))
after n a (perform t k τ) = put_thread a t (performing τ (a.threads t))
after n a (advance t τ) = put_thread a t (advancing τ (a.threads t))
after n a (begin t k p v τ) = record { threads = put a.threads t (beginning p τ (a.threads t)); begun = a.begun + 1; ended = a.ended; owed = a.owed; waiting = a.waiting }
after n a (end t p v τ) = record {
  threads = put a.threads t (ending p τ (a.threads t));
  begun = a.begun;
  ended = a.ended + 1;
  owed = a.owed ++ (record { number = a.ended; from = opened_from p (a.threads t) } ∷ []);
  waiting = a.waiting;
}
after n a (report k) = record { threads = a.threads; begun = a.begun; ended = a.ended; owed = filter (λ e. not (e.number == k)) a.owed; waiting = owed_from k a ∷ a.waiting }
after n a (drop k) = a
after n a settle = record { threads = a.threads; begun = a.begun; ended = a.ended; owed = a.owed; waiting = filter (λ x. not (before_safe n a x)) a.waiting }
after n a close = a

-- There is room for a call.
abbrev pub Room : Use → Call → Type 0
Room a (preset p v) = Unit {0}
Room a (commit t c p v) = ((a.threads t).outstanding < most_outstanding) × ((a.threads t).committed < most_commits)
Room a (perform t k τ) = Unit {0}
Room a (advance t τ) = Unit {0}
Room a (begin t k p v τ) = (length (a.threads t).opened < most_open) × (a.begun < most_begins)
Room a (end t p v τ) = length a.owed < most_owed
Room a (report k) = length a.waiting < most_waiting
Room a (drop k) = Unit {0}
Room a settle = Unit {0}
Room a close = Unit {0}

abbrev pub Within : ℕ → Use → List Call → Type 0
Within n a [] = Unit {0}
Within n a (c ∷ cs) = Room a c × Within n (after n a c) cs

abbrev pub WithinLimits : ℕ → List Call → Type 0
WithinLimits n calls = Within n no_use calls
