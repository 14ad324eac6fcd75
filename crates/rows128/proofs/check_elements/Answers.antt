-- `rows128::check_elements` meets its contract. Assumes nothing.
use Rattle.std.proofs.Common.{le-ltb, lt-ltb}
use Rattle.field128.proofs.Pairs.{elements_length}
use Rattle.rows128.proofs.check_elements.Goals as goal

pub returns-then-bad-row : goal.returns-then-bad-row
returns-then-bad-row c =
    simp (← c.first_bad-bad.ensures, elements_length c.args.row.now, lt-ltb _ _ c.if-bad-row.true)

pub returns-else-bad-row : goal.returns-else-bad-row
returns-else-bad-row c =
    simp (c.accepted.ensures, ← c.first_bad-bad.ensures, elements_length c.args.row.now, le-ltb _ _ c.if-bad-row.false)
