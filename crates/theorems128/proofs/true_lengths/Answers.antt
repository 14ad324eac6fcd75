-- `theorems128::true_lengths` meets its contract. Assumes nothing.
use lib.Dec.{lit<}
use Rattle.params128.specs.Field128.{Field128}
use Rattle.params128.proofs.Limits.{room_128}
use Rattle.sensitivity.proofs.Length.{true_lengths}
use Rattle.theorems128.proofs.true_lengths.Goals as goal

pub returns : goal.returns
returns c = true_lengths Field128 (lit< tt) (λ i h. (room_128 i h).norm)
