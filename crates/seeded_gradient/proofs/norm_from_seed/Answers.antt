-- `seeded_gradient::norm_from_seed` meets its contract. Assumes nothing.
use native.Mathlib.Omega.{arith}
use lib.ListN.{length}
use Rattle.field64.specs.Field.{p64}
use Rattle.flp.specs.Encode.{elements}
use Rattle.turboshake.proofs.Shake.{bytes_all}
use Rattle.wr_joint_rand.proofs.Blocks.{from_buffer}
use Rattle.wr_joint_rand.proofs.Seeds.{results_are}
use Rattle.seeded_gradient.proofs.norm_from_seed.Goals as goal

pub returns-then-count-le1024 : goal.returns-then-count-le1024
returns-then-count-le1024 c =
    let d = c.draw in
    let n = c.norm_and_tests.ensures in
    let stream = c.stream_of-stream in
    let T = length c.args.results.now in
    let xs = elements p64 c.args.frac_bits c.args.gradient.now in
    let drawn = from_buffer p64 c.args.per T _ xs _ stream.result (omega (arith, c.if-count-le1024.true, d.auto.buffer)) d.ensures.0 n.results_after in
    record {
      result_value = n.result_value;
      results_after = results_are p64 c.args.per T c.args.seed.now xs _ _ c.requires.seed_len.0 (bytes_all c.args.seed.now (λ j h. (c.shared_slice_known-2-1.given j).fits)) stream.ensures.0 drawn;
    }

pub returns : goal.returns
returns c =
    let n = c.take_blocks.ensures in
    record {
      result_value = n.result_value;
      results_after = results_are p64 c.args.per (length c.args.results.now) c.args.seed.now (elements p64 c.args.frac_bits c.args.gradient.now) _ _ c.requires.seed_len.0 (bytes_all c.args.seed.now (λ j h. (c.shared_slice_known-2-1.given j).fits)) c.stream_of-stream.ensures.0 n.results_after;
    }
