-- `doubles128::floor_to_field` meets its contract. Assumes nothing.
use Rattle.std.proofs.Common.{◌≤◌, rules}
use Rattle.doubles.specs.Steps.{floor_at}
use Rattle.doubles128.proofs.Words.{Signed, signed_of, sign_fits, carried, element_is}
use Rattle.doubles128.proofs.floor_to_field.Lts as lts
use Rattle.doubles128.proofs.floor_to_field.Reads as reads
use Rattle.doubles128.proofs.floor_to_field.Tie as tie
use Rattle.doubles128.proofs.floor_to_field.Goals as goal

abbrev After-less-carry : Type 0
After-less-carry = lts.After-less tie.the-claims reads.Pre reads.Post tie.handed_clauses

parts : (c : After-less-carry) → Signed (floor_at c.args.w) c.far_floor.result c.sign_of-sign.result
parts c =
    signed_of c.args.w _ _ c.requires c.far_floor.ensures c.sign_of-sign.ensures

few : (c : After-less-carry) → c.sign_of-sign.result ≤ 1
few c = sign_fits _ _ _ (parts c)

pub returns : goal.returns
returns c =
    element_is _ c.far_floor.result c.sign_of-sign.result c.wrapping_add_u64-low.result c.less-carry.result (parts c)
    (carried c.far_floor.result c.sign_of-sign.result c.wrapping_add_u64-low.result c.less-carry.result (few c) (search rules) c.wrapping_add_u64-low.ensures.value c.less-carry.ensures)
