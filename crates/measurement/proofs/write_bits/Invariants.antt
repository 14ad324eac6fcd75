-- `measurement::write_bits` meets its contract. Assumes nothing.
use mathlib.Core.Path.{◌≡◌}
use Prim.Native.Nat.{◌/◌, ◌^◌}
use lib.ListN.{length}
use Rattle.rows.proofs.Walk.{Walking}
use Rattle.flp.specs.Bits.{bits}
use Rattle.measurement.proofs.write_bits.Given as goal

-- the row is the bits up to the index, and as it was from there; `rest` has the others
abbrev pub invariant-loop-x : goal.invariant-loop-x
invariant-loop-x l = Walking (bits (length l.initial.row) l.value) l.initial.row l.row l.x-index × (l.rest ≡ l.value / 2 ^ l.x-index)
