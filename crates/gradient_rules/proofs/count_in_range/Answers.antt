-- `gradient_rules::count_in_range` meets its contract. The invariant: those counted, and those in the rest. Assumes nothing.
use native.Mathlib.Omega.{arith}
use Rattle.field64.specs.Field.{p64}
use Rattle.gradient_rules.proofs.Searches.{one_at_most, count_next, count_end}
use Rattle.gradient_rules.proofs.count_in_range.Goals as goal

pub loop-r-preserved : goal.loop-r-preserved
loop-r-preserved c =
    (omega (arith, one_at_most c.in_range.result), count_next p64 c.args.bound c.args.results.now c.loop-r.r-index c.loop-r.count c.loop-r.invariant.1 (omega arith) c.in_range.result c.in_range.ensures)

pub returns : goal.returns
returns c =
    count_end p64 c.args.bound c.args.results.now c.loop-r.r-index c.loop-r.count c.loop-r.invariant.1 (omega arith)
