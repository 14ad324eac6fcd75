-- `vdaf128::sum_at` meets its contract. Assumes nothing.
use Rattle.rows.proofs.Elements.{below_at}
use Rattle.field128.specs.Field128.{p128, elements_of}
use Rattle.vdaf128.proofs.sum_at.Goals as goal

pub add-requires : goal.add-requires
add-requires c =
    (rw c.element.ensures (below_at p128 (elements_of c.args.left.now) c.requires.below.0 c.args.i c.requires.i_in_bounds.0), rw c.element-2.ensures (below_at p128 (elements_of c.args.right.now) c.requires.below.1 c.args.i c.requires.i_in_bounds.1))
