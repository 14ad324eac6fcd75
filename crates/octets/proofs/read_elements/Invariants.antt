-- `octets::read_elements` meets its contract. Assumes nothing.
use lib.ListN.{length}
use Rattle.rows.proofs.Walk.{Walking}
use Rattle.octets.specs.Octets.{elements_in}
use Rattle.octets.proofs.read_elements.Given as goal

-- the invariant: the row has the elements up to i, and is as it was from there
abbrev pub invariant-loop-i : goal.invariant-loop-i
invariant-loop-i l = Walking (elements_in (length l.initial.row) l.bytes) l.initial.row l.row l.i
