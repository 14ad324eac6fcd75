-- `rows128::adding::part_rows` meets its contract. Assumes nothing.
use Rattle.field128.specs.Joined.{parted}
use Rattle.rows128.proofs.ByPairs.{Pairing}
use Rattle.rows128.proofs.adding.part_rows.Given as goal

-- the invariant: the elements are parted up to i, and as they were from there
abbrev pub invariant-loop-i : goal.invariant-loop-i
invariant-loop-i l = Pairing parted l.initial.agg l.share l.agg l.i
