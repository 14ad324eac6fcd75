-- `layout::both_below` meets its contract. Assumes nothing.
use Rattle.field64.specs.Field.{p64}
use Rattle.rows.proofs.Blocks.{Seen}
use Rattle.octets.specs.Octets.{elements_in}
use Rattle.layout.proofs.both_below.Given as goal

abbrev pub invariant-loop-i : goal.invariant-loop-i
invariant-loop-i l = Seen p64 (elements_in l.count l.left) l.i l.in_left × Seen p64 (elements_in l.count l.right) l.i l.in_right
