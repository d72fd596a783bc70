-- The refusals that a thread alone tells, call by call in checking order. Assumes nothing.
use Rattle.std.specs.Prelude.{ℕ, cond, not, ◌&&◌, List, [], ◌∷◌, length, nat_le, nat_lt}
use Rattle.std.specs.Option.{is_some}
use Rattle.semantics.specs.declared.class.OpClass.{OpClass}
use Rattle.semantics.specs.declared.row.Operation.{Operation}
use Rattle.semantics.specs.declared.verdict.Limit.TheVariants as limit
use Rattle.semantics.specs.declared.verdict.Refusal.TheVariants.{UnknownClass, UnknownPlace, PastTime, NotOutstanding, AlreadyBegun, NotOpen, Over}
use Rattle.semantics.specs.Classes.{last_class, op_class, touches}
use Rattle.semantics.specs.Limits.{last_place, last_kind, most_outstanding, most_commits, most_open}
use Rattle.semantics.specs.Refusals.{Test, no_place}
use Rattle.semantics.specs.State.{Thread, outstanding_as, epoch_at}

-- The time lies before the clock.
abbrev pub early : ℕ → Thread → Test
early τ w = (nat_lt τ w.clock, PastTime)

abbrev pub advance_tests : ℕ → Thread → List Test
advance_tests τ w = early τ w ∷ []

abbrev pub commit_tests : ℕ → ℕ → Thread → List Test
commit_tests c p w =
    (nat_lt last_class c, UnknownClass) ∷ (touches (op_class c) && nat_lt last_place p, UnknownPlace)
    ∷ (nat_le most_outstanding (length w.pending), Over limit.Outstanding) ∷ (nat_le most_commits w.commits, Over limit.Commits) ∷ []

abbrev pub perform_tests : ℕ → ℕ → Thread → List Test
perform_tests n τ w = early τ w ∷ (not (is_some (outstanding_as w n)), NotOutstanding) ∷ []

abbrev pub begin_tests : ℕ → ℕ → ℕ → Thread → List Test
begin_tests k p τ w =
    (nat_lt last_kind k, UnknownClass) ∷ no_place p ∷ early τ w ∷ (is_some (epoch_at w p), AlreadyBegun)
    ∷ (nat_le most_open (length w.epochs), Over limit.Open) ∷ []

abbrev pub end_tests : ℕ → ℕ → Thread → List Test
end_tests p τ w = no_place p ∷ early τ w ∷ (not (is_some (epoch_at w p)), NotOpen) ∷ []

-- What a commit of a class writes down. A barrier's place and value are not looked at, and stand as 0.
abbrev pub committed_row : ℕ → OpClass → ℕ → ℕ → Operation
committed_row n k p v = record { number = n; class = k; place = cond (touches k) p 0; value = cond (touches k) v 0 }
