-- `sensitivity::moved_sums` meets its contract. Assumes nothing.
use Rattle.sensitivity.proofs.Moves.{moved_sums}
use Rattle.sensitivity.proofs.moved_sums.Goals as goal

pub returns : goal.returns
returns c = moved_sums
