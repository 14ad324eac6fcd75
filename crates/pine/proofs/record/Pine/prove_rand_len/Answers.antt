-- `pine::record::Pine::prove_rand_len` meets its contract. Assumes nothing.
use native.Mathlib.Omega.{arith}
use Rattle.pine.proofs.Sizes.{small}
use Rattle.pine.proofs.record.Pine.prove_rand_len.Goals as goal

pub overflow_mul-result : goal.overflow_mul-result
overflow_mul-result c = omega (arith, small c.args.self c.requires)
