-- `sensitivity::moved_doubles` meets its contract. Assumes nothing.
use Rattle.sensitivity.proofs.Moves.{moved_doubles_64}
use Rattle.sensitivity.proofs.moved_doubles.Goals as goal

pub returns : goal.returns
returns c = moved_doubles_64
