-- `correctness::every_sum_decodable` meets its contract. Assumes nothing.
use Rattle.correctness.proofs.Correctness.{decodable_64}
use Rattle.correctness.proofs.every_sum_decodable.Goals as goal

pub returns : goal.returns
returns c = decodable_64
