-- `rows::scan::carries` meets its contract. Assumes nothing.
use Rattle.std.proofs.Common.{◌-◌, ◌≤◌, length}
use Rattle.field64.specs.Field.{p64}
use Rattle.rows.proofs.Blocks.{Seen}
use Rattle.rows.proofs.scan.carries.Given as goal

abbrev pub invariant-loop-at : goal.invariant-loop-at
invariant-loop-at l = (l.at ≤ length l.row) × Seen p64 l.row l.at l.seen

abbrev pub decreases-loop-at : goal.decreases-loop-at
decreases-loop-at l = length l.row - l.at
