-- `theorems128::small_sums` meets its contract. Assumes nothing.
use native.Mathlib.Nat.{le_of_eq, le_trans}
use lib.Dec.{lit<}
use Rattle.params128.specs.Field128.{Field128}
use Rattle.correctness.specs.Correctness.{floors_sum}
use Rattle.field128.specs.Field128.{p128}
use Rattle.theorems128.proofs.Small.{size_of_small}
use Rattle.theorems128.proofs.small_sums.Goals as goal

pub returns : goal.returns
returns c = λ i reports h j k. le_trans (le_of_eq (size_of_small p128 Field128.size_limit (lit< tt) (floors_sum Field128 i j reports) (h j k))) (h j k)
