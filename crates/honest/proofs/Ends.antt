-- The epochs that end in a list of calls. Assumes nothing.
use Rattle.std.proofs.Common.{◌≡◌, ℕ, Bool, cond, not, eqb, List, [], ◌∷◌, ◌++◌, Some, None, Option, arith}
use Rattle.std.proofs.lemmas.Bool.Decides.{nat_tests}
use Rattle.std.specs.List.{find, filter}
use Rattle.semantics.specs.declared.row.Ended.{Ended}
use Rattle.semantics.specs.declared.row.Epoch.{Epoch}
use Rattle.semantics.specs.Calls.{Call, preset, commit, perform, advance, begin, end, report, drop, settle, close}
use Rattle.honest.specs.Machine.{put}

-- What an epoch has from its begin until its end.
pub record EpochStart : Type 0 where
  pub writes : Bool
  pub place : ℕ
  pub from : ℕ
  pub start : ℕ

abbrev pub start_of : Epoch → EpochStart
start_of e = record { writes = e.writes; place = e.place; from = e.from; start = e.start }

abbrev pub new_start : ℕ → ℕ → ℕ → ℕ → EpochStart
new_start k p v τ = record { writes = eqb k 1; place = p; from = τ; start = v }

-- An ended epoch, with no notice.
abbrev pub ended_epoch : ℕ → EpochStart → ℕ → ℕ → Ended
ended_epoch t l v τ = record { number = 0; thread = t; writes = l.writes; place = l.place; from = l.from; until = τ; start = l.start; last = v }

abbrev pub ended_epochs : ℕ → Option EpochStart → ℕ → ℕ → List Ended
ended_epochs t None v τ = []
ended_epochs t (Some l) v τ = ended_epoch t l v τ ∷ []

abbrev pub start_at : List EpochStart → ℕ → Option EpochStart
start_at ls p = find (λ l. eqb l.place p) ls

abbrev pub except_at : List EpochStart → ℕ → List EpochStart
except_at ls p = filter (λ l. not (eqb l.place p)) ls

-- The epochs that end in these calls, in the order of their ends, where the threads have these epochs open.
abbrev pub ends_in : (ℕ → List EpochStart) → List Call → List Ended
ends_in o [] = []
ends_in o (preset p v ∷ cs) = ends_in o cs
ends_in o (commit t c p v ∷ cs) = ends_in o cs
ends_in o (perform t k τ ∷ cs) = ends_in o cs
ends_in o (advance t τ ∷ cs) = ends_in o cs
ends_in o (begin t k p v τ ∷ cs) = ends_in (put o t (o t ++ (new_start k p v τ ∷ []))) cs
ends_in o (end t p v τ ∷ cs) = ended_epochs t (start_at (o t) p) v τ ++ ends_in (put o t (except_at (o t) p)) cs
ends_in o (report k ∷ cs) = ends_in o cs
ends_in o (drop k ∷ cs) = ends_in o cs
ends_in o (settle ∷ cs) = ends_in o cs
ends_in o (close ∷ cs) = ends_in o cs

-- An open epoch looked up after a change.
pub start_at_push : (ls : List EpochStart) (l : EpochStart) (q : ℕ) → start_at ls l.place ≡ None → start_at (ls ++ (l ∷ [])) q ≡ cond (eqb q l.place) (Some l) (start_at ls q)
start_at_push [] l q n = grind (arith, nat_tests)
start_at_push (x ∷ xs) l q n = let r = start_at_push xs l q in grind (arith, nat_tests)

pub start_at_push_other : (ls : List EpochStart) (l : EpochStart) (q : ℕ) → (l.place ≡ q → ⊥) → start_at (ls ++ (l ∷ [])) q ≡ start_at ls q
start_at_push_other [] l q n = grind (arith, nat_tests)
start_at_push_other (x ∷ xs) l q n = let r = start_at_push_other xs l q n in grind (arith, nat_tests)

pub start_at_except : (ls : List EpochStart) (p q : ℕ) → start_at (except_at ls p) q ≡ cond (eqb q p) None (start_at ls q)
start_at_except [] p q = grind (arith, nat_tests)
start_at_except (x ∷ xs) p q = let r = start_at_except xs p q in grind (arith, nat_tests)
