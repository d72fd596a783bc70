-- How the home judges ended epochs. Neither rules nor operations are spoken of here. Assumes nothing.
use Rattle.std.specs.Prelude.{ℕ, ◌+◌, max, Bool, true, false, cond, List, [], ◌∷◌, ◌++◌, Some, None, Option, ◌==◌, nat_le, nat_lt, map}
use Rattle.std.specs.List.{flat_map}
use Rattle.queue.specs.Fields.{in_turn, flag_le}
use Rattle.queue.specs.Order
use Rattle.semantics.specs.declared.row.Ended.{Ended}
use Rattle.semantics.specs.declared.row.Home.{Home}
use Rattle.semantics.specs.declared.verdict.Conviction.{Conviction}
use Rattle.semantics.specs.declared.verdict.Law.TheVariants.{Overlap, WrongBeginValue}
use Rattle.semantics.specs.Lists.{first_some, least_of}
use Rattle.semantics.specs.Puts.{put_value, put_ends, put_home, put_queues, put_counts}
use Rattle.semantics.specs.State.{State, home_of}

-- The order of judging: by begin, then by number. Numbers differ, so the other fields, which make the order total, never decide.
abbrev pub ended_le : Ended → Ended → Bool
ended_le x y =
    in_turn nat_le x.from y.from (in_turn nat_le x.number y.number (in_turn nat_le x.thread y.thread (in_turn flag_le x.writes y.writes
    (in_turn nat_le x.place y.place (in_turn nat_le x.until y.until (in_turn nat_le x.start y.start (nat_le x.last y.last)))))))

-- A row among the waiting.
abbrev pub insert : Ended → List Ended → List Ended
insert = Order.insert ended_le

-- The end that an epoch may not begin before: of a write the later of both latest ends, of a read the latest write end.
abbrev pub bar : Home → Ended → ℕ
bar h e = cond e.writes (max h.read_end h.write_end) h.write_end

-- 27: an epoch begins before such an end, which is named.
abbrev pub law27 : Home → Ended → Option Conviction
law27 h e = cond (nat_lt e.from (bar h e)) (Some (record { law = Overlap; thread = e.thread; number = e.number; other = bar h e })) None

-- 28: an epoch begins with another value than the home's, which is named.
abbrev pub law28 : Home → Ended → Option Conviction
law28 h e = cond (e.start == h.value) None (Some (record { law = WrongBeginValue; thread = e.thread; number = e.number; other = h.value }))

abbrev pub home_laws : Home → Ended → Option Conviction
home_laws h e = first_some (law27 h e ∷ law28 h e ∷ [])

-- A judged write sets value and write end; a judged read raises the read end.
abbrev pub judged_home : Home → Ended → Home
judged_home h e = cond e.writes (put_ends (put_value h e.last) h.read_end e.until) (put_ends h (max h.read_end e.until) h.write_end)

abbrev pub judged_one : State → Ended → State
judged_one s e = put_counts (put_home s e.place (judged_home (home_of s e.place) e)) s.begins s.ends (s.judged + 1) s.dropped

-- Where judging came to: the state, how many were judged, and the conviction at which it stopped, if any.
pub record Judging : Type 0 where
  pub state : State
  pub done : ℕ
  pub fault : Option Conviction

abbrev pub stop_at : State → List Ended → ℕ → Option Conviction → Judging
stop_at s es k c = record { state = put_queues s s.owed es; done = k; fault = c }

-- The next, where the first is due and breaks no law; else a stop, with the conviction only if it was due.
abbrev pub go_on : Bool → Option Conviction → (Option Conviction → Judging) → Judging → Judging
go_on true None stop next = next
go_on true (Some c) stop next = stop (Some c)
go_on false None stop next = stop None
go_on false (Some c) stop next = stop None

-- Judges the waiting in their order as long as the first is due and breaks no law; k were judged before.
abbrev pub judge : (Ended → Bool) → State → List Ended → ℕ → Judging
judge due s [] k = stop_at s [] k None
judge due s (e ∷ es) k = go_on (due e) (home_laws (home_of s e.place) e) (stop_at s (e ∷ es) k) (judge due (judged_one s e) es (k + 1))

-- What bounds the safe time: all clocks, and the begins of all open and owed epochs.
abbrev pub times : State → List ℕ
times s = flat_map (λ w. w.clock ∷ map (λ e. e.from) w.epochs) s.threads ++ map (λ e. e.from) s.owed

abbrev pub safe : State → ℕ
safe s = least_of (times s)
