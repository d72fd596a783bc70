use Rattle.line.proofs.RoundTrip.{one_line}
use Rattle.line.proofs.read.read_line.Goals as goal

pub returns-in_err-columns-clause-same : goal.returns-in_err-columns-clause-same
returns-in_err-columns-clause-same c = one_line

pub returns-in_err-kind-clause-same : goal.returns-in_err-kind-clause-same
returns-in_err-kind-clause-same c = one_line

pub returns-in_err-row-clause-same : goal.returns-in_err-row-clause-same
returns-in_err-row-clause-same c = one_line

pub returns-clause-same : goal.returns-clause-same
returns-clause-same c = one_line
