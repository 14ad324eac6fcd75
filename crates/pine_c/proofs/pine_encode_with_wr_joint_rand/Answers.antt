-- `pine_c::pine_encode_with_wr_joint_rand` meets its contract. Assumes nothing.
use mathlib.Core.Path.{ap, ◌∙◌}
use Rattle.pine.specs.declared.PineParam.{PineParam}
use Rattle.pine.specs.Param.{Field64}
use Rattle.flp.specs.Encode.{encode_of}
use Rattle.pine_c.proofs.pine_encode_with_wr_joint_rand.Goals as goal

pub returns : goal.returns
returns c =
    c.encode_with_wr_joint_rand-answer.ensures ∙ ap (λ (i : PineParam). encode_of Field64 i c.args.gradient.now c.args.stream.now c.args.measurement.now c.args.results.now) c.param_of-param.ensures
