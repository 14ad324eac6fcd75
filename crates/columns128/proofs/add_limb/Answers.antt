-- `columns128::add_limb` meets its contract. Assumes nothing.
use Rattle.field128.specs.Field128.{elements_of}
use Rattle.limbs.proofs.Words.{length_limbs}
use Rattle.limbs.proofs.Joined.{limbs_below}
use Rattle.columns128.proofs.add_limb.Goals as goal

pub add_group-requires-clause-below : goal.add_group-requires-clause-below
add_group-requires-clause-below c =
    let w = c.write_limbs in
    let xs = elements_of c.args.part.now in
    let few = c.requires.part_len_bound in
    (rw w.ensures (limbs_below c.args.k xs), (rw (w.ensures, length_limbs c.args.k xs) few.0, few.1))
