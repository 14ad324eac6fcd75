-- `seeded_gradient::take_block` meets its contract. Assumes nothing.
use native.Mathlib.Omega.{arith}
use lib.ListN.{length}
use Rattle.field64.specs.Field.{p64}
use Rattle.flp.specs.Encode.{elements}
use Rattle.wr_joint_rand.proofs.Blocks.{from_buffer}
use Rattle.seeded_gradient.proofs.take_block.Goals as goal

pub returns-then-count-le-BUFFER : goal.returns-then-count-le-BUFFER
returns-then-count-le-BUFFER c =
    let d = c.draw-next in
    let b = c.norm_and_block-norm.ensures in
    let T = length c.args.results.now in
    record {
      norm_value = b.result_value;
      next_value = d.ensures.1;
      results_after = from_buffer p64 c.args.per T _ (elements p64 c.args.frac_bits c.args.gradient.now) _ c.args.stream (omega (arith, c.if-count-le-BUFFER.true, d.auto.buffer)) d.ensures.0 b.results_after;
    }
