-- `correctness::worked_examples` meets its contract. Assumes nothing.
use Rattle.correctness.proofs.Table.{table}
use Rattle.correctness.proofs.worked_examples.Goals as goal

pub returns : goal.returns
returns c = table
