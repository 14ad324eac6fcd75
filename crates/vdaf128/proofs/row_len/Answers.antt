-- `vdaf128::row_len` meets its contract. Assumes nothing.
use native.Mathlib.Omega.{arith}
use Rattle.params128.proofs.Limits.{limits_128}
use Rattle.vdaf128.proofs.row_len.Goals as goal

pub overflow_mul-result : goal.overflow_mul-result
overflow_mul-result c = omega (arith, (limits_128 _ c.requires).dimension.1)
