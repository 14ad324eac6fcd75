-- `limb_tables::sums_of` meets its contract. Assumes nothing.
use Rattle.std.proofs.Common.{◌^◌, drop, arith, lit<}
use Rattle.limb_tables.proofs.Entries.{left_next}
use Rattle.limb_tables.proofs.sums_of.Goals as goal

pub loop-k-preserved : goal.loop-k-preserved
loop-k-preserved c =
    let t = c.args.tables.now in
    let b = c.args.bytes.now in
    let k = c.loop-k.k in
    let v = c.loop-k.invariant in (
      left_next (2 ^ 64) (lit< tt) (drop 0 t) b c.loop-k.low _ k (omega arith) v.0 c.plus_byte-low.ensures,
      (left_next (2 ^ 64) (lit< tt) (drop 256 t) b c.loop-k.middle _ k (omega arith) v.1.0 c.plus_byte-middle.ensures, left_next (2 ^ 64) (lit< tt) (drop 512 t) b c.loop-k.high _ k (omega arith) v.1.1 c.plus_byte-high.ensures),
    )
