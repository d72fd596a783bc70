-- What a thread's part of a watch accepts, call after call. Assumes nothing.
use Rattle.std.proofs.Common.{◌≡◌, ℕ, ◌<◌, ◌≤◌, true, not, eqb, List, [], ◌∷◌, ◌++◌, Some, None}
use Rattle.std.specs.List.{filter}
use Rattle.semantics.specs.declared.row.Epoch.{Epoch}
use Rattle.semantics.specs.declared.row.Operation.{Operation}
use Rattle.semantics.specs.Calls.{Call, preset, commit, perform, advance, begin, end, report, drop, settle, close}
use Rattle.semantics.specs.Classes.{touches, last_class, op_class, operation}
use Rattle.semantics.specs.Effect.{opened, performed}
use Rattle.semantics.specs.Laws.{Precedes, perform_laws}
use Rattle.semantics.specs.Limits.{last_place, last_kind}
use Rattle.semantics.specs.Puts.{put_clock, put_epochs, committed}
use Rattle.semantics.specs.State.{Thread, outstanding_as, epoch_at}

-- A thread after a commit, after a begin, and after an end.
abbrev pub commits_to : Thread → ℕ → ℕ → ℕ → Thread
commits_to w c p v = committed w (operation w.commits c p v)

abbrev pub enters : Thread → Epoch → Thread
enters w e = put_clock (put_epochs w (w.epochs ++ (e ∷ []))) e.from

abbrev pub leaves : Thread → Epoch → ℕ → Thread
leaves w e τ = put_clock (put_epochs w (filter (λ x. not (eqb x.place e.place)) w.epochs)) τ

-- The thread takes these calls, one after another, with no conviction, and then has nothing outstanding or open.
abbrev pub Accepts : Precedes → ℕ → Thread → List Call → Type 0
Accepts B n w [] = (w.pending ≡ []) × (w.epochs ≡ [])
Accepts B n w (preset p v ∷ cs) = ⊥
Accepts B n w (commit u c p v ∷ cs) = (u < n) × (c ≤ last_class) × (touches (op_class c) ≡ true → p ≤ last_place) × Accepts B n (commits_to w c p v) cs
Accepts B n w (perform u k τ ∷ cs) = (u < n) × (w.clock ≤ τ) × ((o : Operation) × (outstanding_as w k ≡ Some o) × (perform_laws B w u o ≡ None) × Accepts B n (performed w o τ) cs)
Accepts B n w (advance u τ ∷ cs) = ⊥
Accepts B n w (begin u k p v τ ∷ cs) = (u < n) × (k ≤ last_kind) × (p ≤ last_place) × (w.clock ≤ τ) × (epoch_at w p ≡ None) × Accepts B n (enters w (opened k p v τ)) cs
Accepts B n w (end u p v τ ∷ cs) = (u < n) × (p ≤ last_place) × (w.clock ≤ τ) × ((e : Epoch) × (epoch_at w p ≡ Some e) × (e.used < τ) × (v ≡ e.copy) × Accepts B n (leaves w e τ) cs)
Accepts B n w (report k ∷ cs) = ⊥
Accepts B n w (drop k ∷ cs) = ⊥
Accepts B n w (settle ∷ cs) = ⊥
Accepts B n w (close ∷ cs) = ⊥
