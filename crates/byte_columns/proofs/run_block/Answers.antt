-- `byte_columns::run_block` meets its contract: a row whose elements are replaced from the front. Assumes nothing.
use native.Mathlib.Omega.{arith}
use Rattle.byte_columns.proofs.Straight.{results_end, results_next}
use Rattle.byte_columns.proofs.run_block.Goals as goal

pub loop-t-preserved : goal.loop-t-preserved
loop-t-preserved c =
    results_next c.args.per c.args.gradient.now c.args.stream.now c.args.results.now c.loop-t.results c.loop-t.t c.loop-t.invariant (omega arith) c.requires.per_in_bounds.0 c.test_of.result c.test_of.ensures

pub returns : goal.returns
returns c =
    results_end c.args.per c.args.gradient.now c.args.stream.now c.args.results.now c.loop-t.results c.loop-t.t c.loop-t.invariant (omega arith)
