-- `gradient_rules128::count_refused` meets its contract. The invariant: as long as none is counted, the answer for the gradient is that for the rest. Assumes nothing.
use mathlib.Core.Path.{◌≡◌}
use Prim.Native.Nat.{◌≤◌}
use lib.ListN.{drop}
use Rattle.doubles128.specs.Doubles128.{floor_limit128}
use Rattle.flp.specs.Encode.{coordinates_rule}
use Rattle.gradient_rules128.proofs.count_refused.Given as goal

abbrev pub invariant-loop-x : goal.invariant-loop-x
invariant-loop-x l = (l.count ≤ l.x-index) × (l.count ≡ 0 → coordinates_rule floor_limit128 l.frac_bits 0 l.gradient ≡ coordinates_rule floor_limit128 l.frac_bits l.x-index (drop l.x-index l.gradient))
