-- `gradient_rules128::search` meets its contract. The invariant: the answer for the gradient is that for the rest, counted from i. Assumes nothing.
use mathlib.Core.Path.{◌≡◌}
use lib.ListN.{drop}
use Rattle.doubles128.specs.Doubles128.{floor_limit128}
use Rattle.flp.specs.Encode.{coordinates_rule}
use Rattle.gradient_rules128.proofs.search.Given as goal

abbrev pub invariant-loop-i : goal.invariant-loop-i
invariant-loop-i l = coordinates_rule floor_limit128 l.frac_bits 0 l.gradient ≡ coordinates_rule floor_limit128 l.frac_bits l.i (drop l.i l.gradient)
