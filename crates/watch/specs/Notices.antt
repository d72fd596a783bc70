-- What a report says, and that a refused one hands the notice back. Assumes nothing.
use Rattle.std.specs.Prelude.{◌≡◌, Ok, Err, Result}
use Rattle.semantics.specs.Calls.{Answer, taken, refused}
use Rattle.watch.specs.declared.notice.Notice.{Notice}
use Rattle.watch.specs.declared.notice.Returned.{Returned}

abbrev pub report_says : Result (Unit {0}) Returned → Answer
report_says (Ok _) = taken 0
report_says (Err e) = refused e.refusal

-- The notice that comes back is the one that was reported.
abbrev pub HandsBack : Notice → Result (Unit {0}) Returned → Type 0
HandsBack n (Ok _) = Unit {0}
HandsBack n (Err e) = e.notice.number ≡ n.number
