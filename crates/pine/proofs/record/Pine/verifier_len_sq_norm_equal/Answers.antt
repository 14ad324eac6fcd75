-- `pine::record::Pine::verifier_len_sq_norm_equal` meets its contract. Assumes nothing.
use native.Mathlib.Omega.{arith}
use Rattle.pine.proofs.Sizes.{small}
use Rattle.pine.proofs.record.Pine.verifier_len_sq_norm_equal.Goals as goal

pub overflow_add-result : goal.overflow_add-result
overflow_add-result c = omega (arith, small c.args.self c.requires)
