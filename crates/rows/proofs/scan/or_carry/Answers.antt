-- `rows::scan::or_carry` meets its contract. Assumes nothing.
use Rattle.std.proofs.Common.{refl, arith, lit≤}
use Rattle.field64.specs.Field.{p64}
use Rattle.rows.proofs.Blocks.{carry_gives}
use Rattle.rows.proofs.scan.or_carry.Goals as goal

pub returns : goal.returns
returns c =
    let both = carry_gives p64 4294967295 _ _ _ refl (lit≤ tt) (omega arith) c.wrapping_add_u64-sum.ensures.value in
    record {
      seen_bound = both.0;
      upper_bound = both.1;
    }
