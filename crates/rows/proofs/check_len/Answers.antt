-- `rows::check_len` meets its contract. Assumes nothing.
use Rattle.std.proofs.Common.{eq-eqb, ne_eqb}
use Rattle.rows.proofs.check_len.Goals as goal

pub returns-then-len-expected : goal.returns-then-len-expected
returns-then-len-expected c = simp (c.accepted.ensures, eq-eqb _ _ c.if-len-expected.true)

pub returns-else-len-expected : goal.returns-else-len-expected
returns-else-len-expected c = simp (ne_eqb _ _ c.if-len-expected.false)
