-- `theorems128::reports_and_aggregates` meets its contract. Assumes nothing.
use lib.Dec.{lit<}
use Rattle.params128.specs.Field128.{Field128}
use Rattle.params128.proofs.Limits.{words_128, room_128}
use Rattle.correctness.proofs.Correctness.{correctness}
use Rattle.theorems128.proofs.reports_and_aggregates.Goals as goal

pub returns : goal.returns
returns c = correctness Field128 words_128 (lit< tt) room_128
