-- `limb_tables::sums_of` meets its contract. The invariant: each sum, with the entries of the bytes that are left, is that of all bytes. Assumes nothing.
use Rattle.std.proofs.Common.{◌^◌, drop, lit<}
use Rattle.limb_tables.proofs.Entries.{Left}
use Rattle.limb_tables.proofs.sums_of.Given as goal

abbrev pub invariant-loop-k : goal.invariant-loop-k
invariant-loop-k l = Left (2 ^ 64) (lit< tt) (drop 0 l.tables) l.bytes l.low l.k × (Left (2 ^ 64) (lit< tt) (drop 256 l.tables) l.bytes l.middle l.k × Left (2 ^ 64) (lit< tt) (drop 512 l.tables) l.bytes l.high l.k)
