-- `vdaf128::search_sizes` meets its contract. The invariant: the answer for the sums is that for the rest, counted from i. Assumes nothing.
use mathlib.Core.Path.{◌≡◌}
use lib.ListN.{drop}
use Rattle.field128.specs.Field128.{p128}
use Rattle.doubles128.specs.Doubles128.{size_limit128}
use Rattle.vdaf.specs.Aggregates.{sizes_rule}
use Rattle.vdaf128.proofs.Sizes.{sums}
use Rattle.vdaf128.proofs.search_sizes.Given as goal

abbrev pub invariant-loop-i : goal.invariant-loop-i
invariant-loop-i l = sizes_rule p128 size_limit128 0 (sums l.left l.right) ≡ sizes_rule p128 size_limit128 l.i (drop l.i (sums l.left l.right))
