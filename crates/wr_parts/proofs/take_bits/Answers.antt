-- `wr_parts::take_bits` meets its contract. Assumes nothing.
use mathlib.Core.Path.{sym, subst}
use native.Mathlib.Omega.{arith}
use lib.ListN.{length}
use Rattle.field64.specs.Field.{p64}
use Rattle.rows.specs.Rows.{Below}
use Rattle.rows.proofs.Elements.{below_more}
use Rattle.flp.specs.Bits.{bits}
use Rattle.flp.proofs.Bits.{bits_below}
use Rattle.wr_parts.proofs.take_bits.Goals as goal

pub take_piece-requires : goal.take_piece-requires
take_piece-requires c =
    let w = c.write_bits in
    let n = length c.args.row.now in
    record {
      placed = c.requires.placed;
      below = (subst (Below p64) (sym w.ensures) (below_more 2 p64 (omega arith) (bits n c.args.value) (bits_below n c.args.value)), omega (arith, w.auto.row, c.requires.row_len_bound));
    }
