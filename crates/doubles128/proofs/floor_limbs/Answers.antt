-- `doubles128::floor_limbs` meets its contract. Assumes nothing.
use Rattle.doubles.specs.Steps.{floor_at}
use Rattle.doubles128.proofs.Words.{Signed, signed_of, limbs_are}
use Rattle.doubles128.proofs.floor_limbs.Lts as lts
use Rattle.doubles128.proofs.floor_limbs.Reads as reads
use Rattle.doubles128.proofs.floor_limbs.Tie as tie
use Rattle.doubles128.proofs.floor_limbs.Goals as goal

abbrev After-sign_of-sign : Type 0
After-sign_of-sign = lts.After-sign_of tie.the-claims reads.Pre reads.Post

parts : (c : After-sign_of-sign) → Signed (floor_at c.args.w) c.far_floor-word.result c.sign_of-sign.result
parts c = signed_of c.args.w _ _ c.requires c.far_floor-word.ensures c.sign_of-sign.ensures

pub returns : goal.returns
returns c = limbs_are _ c.far_floor-word.result c.sign_of-sign.result (parts c)
