-- `doubles128::size_of` meets its contract. Assumes nothing.
use Rattle.std.proofs.Common.{refl, ap, rules}
use lib.Ieee.{of_bits}
use Rattle.doubles128.specs.Steps.{flag}
use Rattle.doubles128.proofs.Words.{signed_of, size_below, size_level}
use Rattle.doubles128.proofs.size_of.Goals as goal

pub returns-then-w : goal.returns-then-w
unfolding of_bits
returns-then-w c =
    size_below _ c.far_floor-word.result _ c.wrapping_sub_u64.result (signed_of c.args.w _ _ c.requires c.far_floor-word.ensures refl) (ap flag c.if-w.true) (search rules) c.wrapping_sub_u64.ensures.value

pub returns-else-w : goal.returns-else-w
unfolding of_bits
returns-else-w c =
    size_level _ c.far_floor-word.result _ (signed_of c.args.w _ _ c.requires c.far_floor-word.ensures refl) (ap flag c.if-w.false)
