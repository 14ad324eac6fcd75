-- `wr_tests::lengths::stream_len` meets its contract. Assumes nothing.
use Prim.Native.Nat.{◌+◌, ◌/◌}
use native.Mathlib.Omega.{arith}
use Rattle.wr_joint_rand.proofs.Blocks.{few_bytes}
use Rattle.wr_tests.proofs.lengths.stream_len.Goals as goal

pub overflow_mul-result : goal.overflow_mul-result
overflow_mul-result c =
    let i = c.args.param in
    record { fits = omega (arith, few_bytes i.num_wr_tests ((i.dimension + 3) / 4) c.requires.0 (omega (arith, c.requires.1))) }
