-- `rows::scan::carries` meets its contract. Assumes nothing.
use Rattle.std.proofs.Common.{◌+◌, ◌-◌, length, arith}
use Rattle.field64.specs.Field.{p64}
use Rattle.rows.proofs.Blocks.{seen_none, seen_part, seen_all}
use Rattle.rows.proofs.scan.carries.Goals as goal

pub loop-at-init : goal.loop-at-init
loop-at-init c = (omega arith, seen_none p64 c.args.row.now)

pub loop-at-preserved : goal.loop-at-preserved
loop-at-preserved c =
    let row = c.args.row.now in
    let e = c.part_carries-seen.ensures in
    (omega arith, seen_part p64 row c.loop-at.at (c.loop-at.at + 64) c.loop-at.seen _ (omega arith, omega arith) e.below e.upper_bound c.loop-at.invariant.1)

pub returns : goal.returns
returns c =
    let row = c.args.row.now in
    let e = c.part_carries.ensures in
    let both = seen_all p64 row (length row) _ (omega arith) (seen_part p64 row c.loop-at.at (length row) c.loop-at.seen _ (omega arith, omega arith) e.below e.upper_bound c.loop-at.invariant.1) in
    record {
      below = both.0;
      upper_bound = both.1;
    }
