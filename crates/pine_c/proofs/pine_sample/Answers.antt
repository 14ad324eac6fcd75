-- `pine_c::pine_sample` meets its contract. Assumes nothing.
use mathlib.Core.Path.{ap, ◌∙◌}
use Rattle.pine.specs.declared.PineParam.{PineParam}
use Rattle.pine.specs.Param.{Field64}
use Rattle.sampler.specs.Sampler.{sample_of}
use Rattle.pine_c.proofs.pine_sample.Goals as goal

pub returns : goal.returns
returns c =
    c.sample.ensures ∙ ap (λ (i : PineParam). sample_of Field64 i c.args.stream.now c.args.share.now) c.param_of.ensures
