-- `gradient_rules128::count_refused` meets its contract. The invariant: as long as none is counted, the answer for the gradient is that for the rest. Assumes nothing.
use mathlib.Core.Path.{refl}
use native.Mathlib.Omega.{arith}
use lib.ListN.{get_or}
use lib.Ieee.{nan}
use Rattle.doubles.specs.Doubles.{coordinate_rule}
use Rattle.doubles128.specs.Doubles128.{floor_limit128}
use Rattle.gradient_rules.proofs.Searches.{coordinates_next, coordinates_end}
use Rattle.gradient_rules128.proofs.count_refused.Goals as goal

pub loop-x-preserved : goal.loop-x-preserved
loop-x-preserved c =
    let q = c.refused-count.ensures in
    let xs = c.args.gradient.now in
    let f = c.args.frac_bits in
    (omega (arith, q.0), λ z. coordinates_next floor_limit128 f nan xs c.loop-x.x-index (omega arith) (c.loop-x.invariant.1 (omega arith)) (coordinate_rule floor_limit128 (get_or xs c.loop-x.x-index nan) f) refl (q.1 (omega arith)))

pub returns : goal.returns
returns c =
    λ z. coordinates_end floor_limit128 c.args.frac_bits c.args.gradient.now c.loop-x.x-index (omega arith) (c.loop-x.invariant.1 z)
