-- `doubles::floor_word` meets its contract. Assumes nothing.
use Rattle.std.proofs.Common.{lit≤}
use Rattle.doubles.proofs.Floor.{within_more}
use Rattle.doubles.proofs.floor_word.Goals as goal

pub far_floor-requires : goal.far_floor-requires
far_floor-requires c = within_more _ _ (lit≤ tt) c.args.w c.requires

pub returns : goal.returns
returns c = c.far_floor.ensures
