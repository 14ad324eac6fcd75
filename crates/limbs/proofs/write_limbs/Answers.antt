-- `limbs::write_limbs` meets its contract. Assumes nothing.
use Rattle.std.proofs.Common.{arith}
use Rattle.limbs.proofs.Words.{limbs_next}
use Rattle.limbs.proofs.write_limbs.Goals as goal

pub loop-i-preserved : goal.loop-i-preserved
loop-i-preserved c =
    limbs_next c.args.k c.args.words.now c.args.row.now c.loop-i.row c.loop-i.i c.requires.1 c.loop-i.invariant (omega arith) _ c.limb_of.result c.element.ensures c.limb_of.ensures
