-- `narrow::above` meets its contract. Assumes nothing.
use Rattle.std.proofs.Common.{rules}
use Rattle.narrow.proofs.Numbers.{above_by_bits}
use Rattle.narrow.proofs.above.Goals as goal

pub returns : goal.returns
returns c =
    above_by_bits c.args.n.low c.args.n.high c.args.bound _ _ (search rules) (search rules) (search rules) (search rules) c.requires c.wrapping_sub_u64-less_high.ensures.value c.wrapping_sub_u64-rest.ensures.value
