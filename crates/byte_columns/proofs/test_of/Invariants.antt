-- `byte_columns::test_of` meets its contract. Assumes nothing.
use Prim.Native.Nat.{◌*◌}
use Rattle.byte_columns.specs.ByteColumns.{Summed}
use Rattle.byte_columns.proofs.test_of.Given as goal

abbrev pub invariant-loop-j : goal.invariant-loop-j
invariant-loop-j l = Summed l.xs l.bytes (4 * l.j) l.sum
