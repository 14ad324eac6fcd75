-- `rows128::scan::search` meets its contract. The invariant: the answer for the row is i and the answer for the rest. Assumes nothing.
use Rattle.std.proofs.Common.{◌≡◌, ◌+◌, drop}
use Rattle.rows.specs.Rows.{first_bad}
use Rattle.field128.specs.Field128.{p128, elements_of}
use Rattle.rows128.proofs.scan.search.Given as goal

abbrev pub invariant-loop-i : goal.invariant-loop-i
invariant-loop-i l = first_bad p128 (elements_of l.row) ≡ l.i + first_bad p128 (drop l.i (elements_of l.row))
