-- `limbs::join` meets its contract. Assumes nothing.
use Rattle.limbs.specs.Limbs.{modulus_of}
use Rattle.limbs.proofs.Words.{joined_is}
use Rattle.limbs.proofs.join.Goals as goal

pub returns : goal.returns
returns c =
    joined_is (modulus_of c.args.reduced) _ _ _ _ _ _ _ _ _ _ c.raised.ensures c.raised-2.ensures c.raised-3.ensures c.shifted.ensures c.add-lower.ensures c.shifted_twice.ensures c.add.ensures
