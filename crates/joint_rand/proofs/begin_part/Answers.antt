-- `joint_rand::begin_part` meets its contract. Assumes nothing.
use Rattle.joint_rand.proofs.Parts.{begun}
use Rattle.joint_rand.proofs.begin_part.Goals as goal

pub returns : goal.returns
returns c = (begun c.args.usage c.args.agg_id c.args.blind c.args.nonce.now c.init.result c.absorb.result _ c.init.ensures.0 c.absorb.ensures.0 c.absorb-2.ensures.0, c.absorb-2.ensures.1)
