-- `pine::record::Pine::verifier_len` meets its contract. Assumes nothing.
use native.Mathlib.Omega.{arith}
use Rattle.pine.proofs.Sizes.{small}
use Rattle.pine.proofs.record.Pine.verifier_len.Goals as goal

pub overflow_mul-result : goal.overflow_mul-result
overflow_mul-result c = omega (arith, small c.args.self c.requires)

pub overflow_add-result : goal.overflow_add-result
overflow_add-result c = omega (arith, small c.args.self c.requires)
