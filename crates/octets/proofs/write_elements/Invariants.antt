-- `octets::write_elements` meets its contract. Assumes nothing.
use mathlib.Core.Path.{◌≡◌}
use lib.ListN.{length, take}
use Rattle.octets.specs.Octets.{element_bytes, filled}
use Rattle.octets.proofs.write_elements.Given as goal

abbrev pub invariant-loop-i : goal.invariant-loop-i
invariant-loop-i l = (length l.row ≡ length l.initial.row) × (l.row ≡ filled (element_bytes (take l.i l.elements)) l.initial.row)
