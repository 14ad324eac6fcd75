-- `rows::scan::part_carries` meets its contract. Assumes nothing.
use Rattle.std.proofs.Common.{◌-◌, ◌≤◌, length}
use Rattle.field64.specs.Field.{p64}
use Rattle.rows.proofs.Blocks.{Seen}
use Rattle.rows.proofs.scan.part_carries.Given as goal

abbrev pub invariant-loop-x : goal.invariant-loop-x
invariant-loop-x l = Seen p64 l.part l.x-index l.seen
