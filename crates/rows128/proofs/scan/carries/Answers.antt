-- `rows128::scan::carries` meets its contract. Assumes nothing.
use Rattle.std.proofs.Common.{arith}
use Rattle.rows.proofs.Blocks.{seen_next, seen_all}
use Rattle.field128.specs.Field128.{p128, elements_of}
use Rattle.field128.proofs.Pairs.{elements_length}
use Rattle.rows128.proofs.scan.carries.Goals as goal

pub loop-i-preserved : goal.loop-i-preserved
loop-i-preserved c =
    let row = c.args.row.now in
    let e = c.or_carry-seen.ensures in
    seen_next p128 (elements_of row) c.loop-i.i c.loop-i.seen _ _ (omega (arith, elements_length row)) c.element-e.ensures e.seen_bound e.upper_bound c.loop-i.invariant

pub returns : goal.returns
returns c =
    let row = c.args.row.now in
    let both = seen_all p128 (elements_of row) c.loop-i.i c.loop-i.seen (omega (arith, elements_length row)) c.loop-i.invariant in
    record {
      below = both.0;
      upper_bound = both.1;
    }
