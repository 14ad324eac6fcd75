-- `pine::record::Pine::proof_len_sq_norm_equal` meets its contract. Assumes nothing.
use native.Mathlib.Omega.{arith}
use Rattle.pine.proofs.Sizes.{small}
use Rattle.pine.proofs.record.Pine.proof_len_sq_norm_equal.Goals as goal

pub proof_len-requires : goal.proof_len-requires
proof_len-requires c = (omega (arith, small c.args.self c.requires), omega (arith, small c.args.self c.requires))
