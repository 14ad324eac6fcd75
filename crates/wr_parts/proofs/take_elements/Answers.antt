-- `wr_parts::take_elements` meets its contract. Assumes nothing.
use mathlib.Core.Path.{◌≡◌, sym, subst, ◌∙◌}
use native.Mathlib.Omega.{arith}
use lib.ListN.{length}
use lib.Dec.{lit<}
use Rattle.field64.specs.Field.{p64}
use Rattle.rows.specs.Rows.{Below}
use Rattle.flp.proofs.Gradient.{elements_below}
use Rattle.wr_parts.proofs.take_elements.Goals as goal

pub take_piece-requires : goal.take_piece-requires
take_piece-requires c =
    let w = c.write_elements in
    let long : length w.new.row ≡ length c.args.part.now = w.auto.row ∙ c.requires.row_len.0 in
    record {
      placed = c.requires.placed;
      below = (subst (Below p64) (sym w.ensures) (elements_below p64 c.args.frac_bits (lit< tt) c.args.part.now), omega (arith, long, c.requires.row_len.1));
    }
