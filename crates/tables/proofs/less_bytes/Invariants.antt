-- `tables::less_bytes` meets its contract. The invariant: the sum, and the entries of the bytes that are left, are those of all bytes. Assumes nothing.
use mathlib.Core.Path.{◌≡◌}
use Prim.Native.Nat.{◌+◌, ◌*◌, ◌≤◌}
use lib.ListN.{drop}
use Rattle.sums.specs.Unreduced.{total_of}
use Rattle.tables.specs.Tables.{entries_of}
use Rattle.tables.proofs.less_bytes.Given as goal

abbrev pub invariant-loop-k : goal.invariant-loop-k
invariant-loop-k l = (l.sum.high ≤ 2 * l.k) × (total_of l.sum + entries_of l.tables (32 * l.k) (drop l.k l.bytes) ≡ entries_of l.tables 0 l.bytes)
