-- `pine::record::Pine::proof_len` meets its contract. Assumes nothing.
use native.Mathlib.Omega.{arith}
use Rattle.pine.proofs.Sizes.{small}
use Rattle.pine.proofs.record.Pine.proof_len.Goals as goal

pub overflow_mul-self : goal.overflow_mul-self
overflow_mul-self c = omega (arith, small c.args.self c.requires)

pub proof_len-requires : goal.proof_len-requires
proof_len-requires c = (omega (arith, small c.args.self c.requires), omega (arith, small c.args.self c.requires))
