-- `sensitivity::true_lengths` meets its contract. Assumes nothing.
use Rattle.sensitivity.proofs.Length.{true_lengths_64}
use Rattle.sensitivity.proofs.true_lengths.Goals as goal

pub returns : goal.returns
returns c = true_lengths_64
