-- `rows128::scan::carries` meets its contract. Assumes nothing.
use Rattle.rows.proofs.Blocks.{Seen}
use Rattle.field128.specs.Field128.{p128, elements_of}
use Rattle.rows128.proofs.scan.carries.Given as goal

abbrev pub invariant-loop-i : goal.invariant-loop-i
invariant-loop-i l = Seen p128 (elements_of l.row) l.i l.seen
