-- `byte_columns::run_block` meets its contract: a row whose elements are replaced from the front. Assumes nothing.
use Rattle.rows.proofs.Walk.{Walking}
use Rattle.byte_columns.proofs.Straight.{all_results}
use Rattle.byte_columns.proofs.run_block.Given as goal

abbrev pub invariant-loop-t : goal.invariant-loop-t
invariant-loop-t l = Walking (all_results l.per l.gradient l.stream l.initial.results) l.initial.results l.results l.t
