-- What the judged epochs of a trace make of each place. Assumes nothing.
use Rattle.std.specs.Prelude.{◌≡◌, ℕ, ◌<◌, ◌≤◌, true, cond, ◌||◌, List, [], ◌∷◌, None, ◌==◌, nat_eq}
use Rattle.semantics.specs.declared.row.Ended.{Ended}
use Rattle.semantics.specs.declared.row.Home.{Home}
use Rattle.semantics.specs.Judging.{home_laws, judged_home}
use Rattle.semantics.specs.Laws.{Rule}
use Rattle.semantics.specs.Limits.{places}
use Rattle.semantics.specs.State.{State, home_of}
use Rattle.semantics.specs.Trace.{Trace, Follows, starting}
use Rattle.accounts.specs.Accounts.{epochs, judgings}
use Rattle.accounts.specs.Lists.{All, there_is}

-- The home of a place before any judging: its starting value, and whether an epoch began there.
abbrev pub home_before : Trace → ℕ → Home
home_before tr p = record { value = starting tr p; read_end = 0; write_end = 0; begun = there_is (λ e. nat_eq e.row.place p) (epochs tr) }

-- The home of a place after one judging, and after some in turn.
abbrev pub judged_at : ℕ → Home → Ended → Home
judged_at p h e = cond (e.place == p) (judged_home h e) h

abbrev pub home_after : ℕ → Home → List Ended → Home
home_after p h [] = h
home_after p h (e ∷ es) = home_after p (judged_at p h e) es

-- Each breaks no law of the home that those before it left.
abbrev pub Lawful : (ℕ → Home) → List Ended → Type 0
Lawful H [] = Unit {0}
Lawful H (e ∷ es) = (home_laws (H e.place) e ≡ None) × Lawful (λ p. judged_at p (H p) e) es

-- Of two judged epochs of a place, one of them a write, the one judged first ends no later than the other begins.
abbrev pub Apart : List Ended → Type 0
Apart [] = Unit {0}
Apart (e ∷ es) = All (λ f. e.place ≡ f.place → (e.writes || f.writes) ≡ true → e.until ≤ f.from) es × Apart es

pub record Homes (tr : Trace) (s : State) : Type 0 where
  pub homes : (p : ℕ) → p < places → home_of s p ≡ home_after p (home_before tr p) (judgings tr)
  pub lawful : Lawful (home_before tr) (judgings tr)
  pub spans : All (λ e. e.from < e.until) (judgings tr)
  pub apart : Apart (judgings tr)

abbrev pub HomesAreTold : Type 0
HomesAreTold = (R : Rule) (n : ℕ) (tr : Trace) (s : State) → Follows R n tr s → Homes tr s
