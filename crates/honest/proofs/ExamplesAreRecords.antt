-- The two example lists record runs of the machine, which are written out. Assumes nothing.
use Rattle.std.proofs.Common.{ℕ, Bool, true, false, List, [], ◌∷◌, refl, arith, lit<, lit≤}
use Rattle.std.proofs.lemmas.Bool.Decides.{nat_tests}
use Rattle.semantics.specs.Calls.{Call, preset, commit, perform, advance, begin, end, report, settle}
use Rattle.semantics.specs.Classes.{operation}
use Rattle.honest.specs.Examples.{WorkedIsARecord, MixedIsARecord}
use Rattle.honest.specs.Machine.{Hold, commits, performs_load, performs_store, takes_to_read, takes_to_write, gives_back, stays, goes}
use Rattle.honest.specs.Record.{nothing, presets, settles}

-- A hold to read or to write, taken at τ and used at υ.
held : Bool → ℕ → ℕ → Hold
held w τ υ = record { writes = w; since = τ; used = υ }

worked_steps : List Call
worked_steps =
    commit 0 1 3 7 ∷ commit 0 0 4 0 ∷ begin 0 0 4 0 1 ∷ perform 0 1 2 ∷ begin 0 1 3 0 3 ∷ perform 0 0 4 ∷ end 0 4 0 5 ∷ end 0 3 7 5 ∷ []

worked_body : List Call
worked_body =
    commit 0 1 3 7 ∷ commit 0 0 4 0 ∷ begin 0 0 4 0 1 ∷ perform 0 1 2 ∷ begin 0 1 3 0 3 ∷ perform 0 0 4 ∷ end 0 4 0 5 ∷ report 0 ∷ end 0 3 7 5 ∷ report 1 ∷ []

pub worked_is_a_record : WorkedIsARecord
unfolding worked_steps worked_body held
worked_is_a_record = (
  record {
    opening = [];
    body = worked_body;
    steps = worked_steps;
    final = _;
    laid_out = refl;
    opens = nothing;
    run =
        goes (commits 0 1 3 7 (lit< tt) (lit≤ tt) (λ _. lit≤ tt))
        (goes (commits 0 0 4 0 (lit< tt) (lit≤ tt) (λ _. lit≤ tt))
        (goes (takes_to_read 0 4 1 (record { thread = lit< tt; time = lit≤ tt }) (lit≤ tt) refl (λ u h e. cc))
        (goes (performs_load 0 2 (operation 0 1 3 7 ∷ []) (operation 1 0 4 0) [] (held false 1 1)
        (record { thread = lit< tt; time = lit≤ tt; pending = refl; unordered = (refl, tt) }) refl ((λ s. let e = s.1 in omega arith), tt) refl refl)
        (goes (takes_to_write 0 3 3 (record { thread = lit< tt; time = lit≤ tt }) (lit≤ tt) (λ u. refl))
        (goes (performs_store 0 4 [] (operation 0 1 3 7) [] (held true 3 3) (record { thread = lit< tt; time = lit≤ tt; pending = refl; unordered = tt }) refl tt refl refl)
        (goes (gives_back 0 4 5 (held false 1 2) (record { thread = lit< tt; time = lit≤ tt }) (lit≤ tt) refl (lit< tt) (lit< tt))
        (goes (gives_back 0 3 5 (held true 3 4) (record { thread = lit< tt; time = lit≤ tt }) (lit≤ tt) refl (lit< tt) (lit< tt))
        stays)))))));
    at_rest = record { done = λ t. grind arith; free = λ t p. grind arith };
    own = λ t. refl;
    in_place = (tt, (tt, (tt, (tt, (tt, (tt, (tt, ((omega arith, refl), (tt, ((omega arith, refl), tt))))))))));
    reported = λ k l. grind (arith, nat_tests);
  },
  omega arith,
)

-- In the run thread 0 goes first.
mixed_steps : List Call
mixed_steps =
    commit 1 0 5 9 ∷ commit 0 1 5 9 ∷ begin 0 1 5 2 1 ∷ perform 0 0 2 ∷ end 0 5 9 4 ∷ begin 1 0 5 9 4 ∷ perform 1 0 5 ∷ end 1 5 9 6 ∷ []

mixed_body : List Call
mixed_body =
    commit 1 0 5 9 ∷ advance 1 3 ∷ begin 1 0 5 9 4 ∷ perform 1 0 5 ∷ end 1 5 9 6
    ∷ settle ∷ report 0
    ∷ commit 0 1 5 9 ∷ settle ∷ begin 0 1 5 2 1 ∷ perform 0 0 2 ∷ end 0 5 9 4 ∷ advance 0 9 ∷ settle ∷ report 1 ∷ settle ∷ []

pub mixed_is_a_record : MixedIsARecord
unfolding mixed_steps mixed_body held
mixed_is_a_record = (
  record {
    opening = preset 5 2 ∷ settle ∷ preset 6 8 ∷ [];
    body = mixed_body;
    steps = mixed_steps;
    final = _;
    laid_out = refl;
    opens = presets 5 2 (omega arith) (settles (presets 6 8 (omega arith) nothing));
    run =
        goes (commits 1 0 5 9 (lit< tt) (lit≤ tt) (λ _. lit≤ tt))
        (goes (commits 0 1 5 9 (lit< tt) (lit≤ tt) (λ _. lit≤ tt))
        (goes (takes_to_write 0 5 1 (record { thread = lit< tt; time = lit≤ tt }) (lit≤ tt) (λ u. refl))
        (goes (performs_store 0 2 [] (operation 0 1 5 9) [] (held true 1 1) (record { thread = lit< tt; time = lit≤ tt; pending = refl; unordered = tt }) refl tt refl refl)
        (goes (gives_back 0 5 4 (held true 1 2) (record { thread = lit< tt; time = lit≤ tt }) (lit≤ tt) refl (lit< tt) (lit< tt))
        (goes (takes_to_read 1 5 4 (record { thread = lit< tt; time = lit≤ tt }) (lit≤ tt) refl (λ u h e. grind arith))
        (goes (performs_load 1 5 [] (operation 0 0 5 9) [] (held false 4 4) (record { thread = lit< tt; time = lit≤ tt; pending = refl; unordered = tt }) refl tt refl refl)
        (goes (gives_back 1 5 6 (held false 4 5) (record { thread = lit< tt; time = lit≤ tt }) (lit≤ tt) refl (lit< tt) (lit< tt))
        stays)))))));
    at_rest = record { done = λ t. grind arith; free = λ t p. grind arith };
    own = λ t. grind arith;
    in_place = (tt, (omega arith, (tt, (tt, (tt, (tt, ((omega arith, refl), (tt, (tt, (tt, (tt, (tt, (omega arith, (tt, ((omega arith, refl), (tt, tt))))))))))))))));
    reported = λ k l. grind (arith, nat_tests);
  },
  omega arith,
)
