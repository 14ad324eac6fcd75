-- `wr_joint_rand::run_from_seed` meets its contract. Assumes nothing.
use lib.ListN.{length}
use Rattle.field64.specs.Field.{p64}
use Rattle.turboshake.proofs.Shake.{bytes_all}
use Rattle.wr_joint_rand.proofs.Seeds.{results_are}
use Rattle.wr_joint_rand.proofs.run_from_seed.Goals as goal

pub returns-then-results-per-le1024 : goal.returns-then-results-per-le1024
returns-then-results-per-le1024 c =
    results_are p64 c.args.per (length c.args.results.now) c.args.seed.now c.args.gradient.now _ _ c.requires.seed_len.0 (bytes_all c.args.seed.now (λ j h. (c.shared_slice_known-2-1.given j).fits)) c.stream_of-stream.ensures.0 c.run_blocks.ensures

pub returns : goal.returns
returns c =
    results_are p64 c.args.per (length c.args.results.now) c.args.seed.now c.args.gradient.now _ _ c.requires.seed_len.0 (bytes_all c.args.seed.now (λ j h. (c.shared_slice_known-2-1.given j).fits)) c.stream_of-stream.ensures.0 c.run_blocks-2.ensures
