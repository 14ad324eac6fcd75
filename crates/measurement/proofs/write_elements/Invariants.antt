-- `measurement::write_elements` meets its contract. Assumes nothing.
use mathlib.Core.Path.{◌≡◌}
use lib.ListN.{length}
use Rattle.measurement.proofs.Elements.{Written}
use Rattle.measurement.proofs.write_elements.Given as goal

abbrev pub invariant-loop-k : goal.invariant-loop-k
invariant-loop-k l = (length l.row ≡ length l.initial.row) × Written l.frac_bits l.gradient l.initial.row l.row l.k
