-- `tables::less_group` meets its contract: a row whose elements are replaced from the front. Assumes nothing.
use Rattle.field64.specs.Field.{p64}
use Rattle.rows.proofs.Walk.{Walking}
use Rattle.tables.specs.Tables.{less_group}
use Rattle.tables.proofs.less_group.Given as goal

abbrev pub invariant-loop-t : goal.invariant-loop-t
invariant-loop-t l = Walking (less_group p64 l.tables l.per l.j l.n l.stream l.initial.results) l.initial.results l.results l.t
