-- `wr_tests::run_lent` meets its contract. Assumes nothing.
use native.Mathlib.Omega.{arith}
use lib.ListN.{length}
use Rattle.wr_joint_rand.proofs.Blocks.{short_per}
use Rattle.wr_tests.proofs.run_lent.Goals as goal

pub run_block-requires : goal.run_block-requires
run_block-requires c =
    let few = short_per (length c.args.results.now) c.args.per (length c.args.stream.now) c.requires.results_nonzero.0.0 c.requires.results_nonzero.0.1 in
    record {
      per_in_bounds = (c.requires.results_nonzero.0.1, (c.requires.results_nonzero.1.0, omega (arith, few, c.if-stream-le-FEW_BYTES.true)));
      below = c.requires.below;
    }

pub run_block-requires-2 : goal.run_block-requires-2
run_block-requires-2 c =
    record {
      per_in_bounds = (c.requires.results_nonzero.0.1, c.requires.results_nonzero.1);
      below = c.requires.below;
    }
