-- `rows128::scan::or_carry` meets its contract. Assumes nothing.
use Rattle.std.proofs.Common.{rules}
use Rattle.rows128.proofs.Carries.{gathered}
use Rattle.rows128.proofs.scan.or_carry.Goals as goal

pub returns : goal.returns
returns c =
    let a = c.args in
    let both = gathered a.seen a.low a.high _ _ (search rules) (search rules) c.beyond.ensures c.wrapping_add_u64-sum.ensures.value in
    record {
      seen_bound = both.0;
      upper_bound = both.1;
    }
