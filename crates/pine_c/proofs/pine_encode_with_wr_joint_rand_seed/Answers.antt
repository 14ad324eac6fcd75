-- `pine_c::pine_encode_with_wr_joint_rand_seed` meets its contract. Assumes nothing.
use mathlib.Core.Path.{ap, ◌∙◌}
use Rattle.pine.specs.declared.PineParam.{PineParam}
use Rattle.pine.specs.Param.{Field64}
use Rattle.pine.specs.Record.{stream_len_of}
use Rattle.flp.specs.Encode.{encode_of}
use Rattle.wr_joint_rand.specs.WrJointRand.{wr_stream}
use Rattle.pine_c.proofs.pine_encode_with_wr_joint_rand_seed.Goals as goal

pub returns : goal.returns
returns c =
    c.encode_with_wr_joint_rand_seed-answer.ensures ∙ ap (λ (i : PineParam). encode_of Field64 i c.args.gradient.now (wr_stream (stream_len_of i.num_wr_tests i.dimension) c.args.seed.now) c.args.measurement.now c.args.results.now) c.param_of-param.ensures
