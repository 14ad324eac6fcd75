-- `theorems128::moved_doubles` meets its contract. Assumes nothing.
use lib.Dec.{lit<, lit≤}
use Rattle.params128.specs.Field128.{Field128}
use Rattle.params128.proofs.Limits.{words_128, room_128}
use Rattle.correctness.proofs.Correctness.{correctness}
use Rattle.sensitivity.proofs.Moves.{moved_doubles}
use Rattle.theorems128.proofs.moved_doubles.Goals as goal

pub returns : goal.returns
returns c = moved_doubles Field128 (correctness Field128 words_128 (lit< tt) room_128) (lit≤ tt)
