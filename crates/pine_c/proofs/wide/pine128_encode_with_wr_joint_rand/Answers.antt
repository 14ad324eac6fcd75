-- `pine_c::wide::pine128_encode_with_wr_joint_rand` meets its contract. Assumes nothing.
use mathlib.Core.Path.{ap, ◌∙◌}
use Rattle.pine.specs.declared.PineParam.{PineParam}
use Rattle.flp.specs.Encode.{encode_of}
use Rattle.params128.specs.Field128.{Field128}
use Rattle.pine_c.proofs.wide.pine128_encode_with_wr_joint_rand.Goals as goal

pub returns-then-results-eq0 : goal.returns-then-results-eq0
returns-then-results-eq0 c =
    c.encode_with_wr_joint_rand.ensures ∙ ap (λ (i : PineParam). encode_of Field128 i c.args.gradient.now c.args.stream.now c.args.measurement.now c.args.results.now) c.param_of-param.ensures

pub returns : goal.returns
returns c =
    c.encode_with_wr_joint_rand-answer.ensures ∙ ap (λ (i : PineParam). encode_of Field128 i c.args.gradient.now c.args.stream.now c.args.measurement.now c.args.results.now) c.param_of-param.ensures
