-- `octets::write_number` meets its contract. Assumes nothing.
use mathlib.Core.Path.{◌≡◌}
use Prim.Native.Nat.{◌/◌, ◌^◌}
use lib.ListN.{length}
use Rattle.rows.proofs.Walk.{Walking}
use Rattle.octets.specs.Octets.{to_bytes}
use Rattle.octets.proofs.write_number.Given as goal

-- the invariant: the row has the bytes up to i, and is as it was from there; `rest` has the others
abbrev pub invariant-loop-byte : goal.invariant-loop-byte
invariant-loop-byte l = Walking (to_bytes (length l.initial.row) l.x) l.initial.row l.row l.byte-index × (l.rest ≡ l.x / 256 ^ l.byte-index)
