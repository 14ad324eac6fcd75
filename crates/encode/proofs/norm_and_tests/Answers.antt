-- `encode::norm_and_tests` meets its contract. Assumes nothing.
use Prim.Native.Nat.{◌*◌}
use lib.ListN.{length}
use Rattle.wr_joint_rand.proofs.Blocks.{some_bytes}
use Rattle.wr_joint_rand.proofs.Seeds.{is_seed, from_seed}
use Rattle.encode.proofs.norm_and_tests.Goals as goal

pub norm_from_seed-requires : goal.norm_from_seed-requires
norm_from_seed-requires c =
    let n = length c.args.results.now * c.args.per in
    record {
      usable = c.requires.usable;
      seed_len = (is_seed n c.args.row.now (some_bytes (length c.args.results.now) c.args.per c.requires.results_nonzero.0 c.requires.per_nonzero.0.0) (rw (from_seed c.args.seeded n c.args.row.now c.if-seeded.true) at c.requires.per_in_bounds), c.requires.results_nonzero);
      per_nonzero = c.requires.per_nonzero;
    }
