-- `gradient_rules::search` meets its contract. The invariant: the answer for the gradient is that for the rest, counted from i. Assumes nothing.
use mathlib.Core.Path.{◌≡◌}
use lib.ListN.{drop}
use Rattle.doubles.specs.Doubles.{floor_limit64}
use Rattle.flp.specs.Encode.{coordinates_rule}
use Rattle.gradient_rules.proofs.search.Given as goal

abbrev pub invariant-loop-i : goal.invariant-loop-i
invariant-loop-i l = coordinates_rule floor_limit64 l.frac_bits 0 l.gradient ≡ coordinates_rule floor_limit64 l.frac_bits l.i (drop l.i l.gradient)
