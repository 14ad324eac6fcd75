-- `correctness::reports_and_aggregates` meets its contract. Assumes nothing.
use Rattle.correctness.proofs.Correctness.{correctness_64}
use Rattle.correctness.proofs.reports_and_aggregates.Goals as goal

pub returns : goal.returns
returns c = correctness_64
