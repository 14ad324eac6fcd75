-- `parts::gradient_part` meets its contract. Assumes nothing.
use mathlib.Core.Path.{refl}
use native.Mathlib.Omega.{arith}
use Rattle.pine.specs.declared.record.Pine.{Pine}
use Rattle.pine.specs.Record.{pine_of}
use Rattle.flp.specs.Circuits.{gradient_part_of, gradient_part}
use Rattle.parts.proofs.Cuts.{gradient_ends}
use Rattle.parts.proofs.Places.{cut_is, inside}
use Rattle.parts.proofs.gradient_part.Goals as goal

pub gradient-requires : goal.gradient-requires
unfolding pine_of
gradient-requires c =
    let a = c.args in
    omega (arith, inside a.param a.full.now (λ (r : Pine). 0) (λ (r : Pine). r.dimension) refl refl _ c.check_into-pine.ensures (gradient_ends a.param))

pub returns : goal.returns
unfolding gradient_part_of gradient_part pine_of
returns c =
    let a = c.args in
    cut_is a.param a.full.now (λ (r : Pine). 0) (λ (r : Pine). r.dimension) refl refl _ c.check_into-pine.ensures _ c.gradient.ensures
