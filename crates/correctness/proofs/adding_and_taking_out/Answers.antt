-- `correctness::adding_and_taking_out` meets its contract. Assumes nothing.
use Rattle.correctness.proofs.Undo.{withdrawal}
use Rattle.correctness.proofs.adding_and_taking_out.Goals as goal

pub returns : goal.returns
returns c = withdrawal
