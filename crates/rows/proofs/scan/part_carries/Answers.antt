-- `rows::scan::part_carries` meets its contract. Assumes nothing.
use Rattle.std.proofs.Common.{refl, arith}
use Rattle.field64.specs.Field.{p64}
use Rattle.rows.proofs.Blocks.{seen_none, seen_next, seen_all}
use Rattle.rows.proofs.scan.part_carries.Goals as goal

pub loop-x-init : goal.loop-x-init
loop-x-init c = seen_none p64 c.args.part.now

pub loop-x-preserved : goal.loop-x-preserved
loop-x-preserved c =
    let e = c.or_carry-seen.ensures in
    seen_next p64 c.args.part.now c.loop-x.x-index c.loop-x.seen _ _ (omega arith) refl e.seen_bound e.upper_bound c.loop-x.invariant

pub returns : goal.returns
returns c =
    let both = seen_all p64 c.args.part.now c.loop-x.x-index c.loop-x.seen (omega arith) c.loop-x.invariant in
    record {
      below = both.0;
      upper_bound = both.1;
    }
