-- `rows128::sub_rows` meets its contract. Assumes nothing.
use Rattle.field64.specs.Field.{sub_mod}
use Rattle.field128.specs.Field128.{p128}
use Rattle.rows128.proofs.ByPairs.{Pairing}
use Rattle.rows128.proofs.sub_rows.Given as goal

-- the invariant: the elements are the differences up to i, and as they were from there
abbrev pub invariant-loop-i : goal.invariant-loop-i
invariant-loop-i l = Pairing (sub_mod p128) l.initial.agg l.share l.agg l.i
