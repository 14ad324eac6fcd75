-- `pine_c::pine_merge` meets its contract. Assumes nothing.
use mathlib.Core.Path.{ap, ◌∙◌}
use Rattle.pine.specs.declared.PineParam.{PineParam}
use Rattle.pine.specs.Param.{Field64}
use Rattle.vdaf.specs.Aggregates.{accumulate_of}
use Rattle.pine_c.proofs.pine_merge.Goals as goal

pub returns : goal.returns
returns c =
    c.merge.ensures ∙ ap (λ (i : PineParam). accumulate_of Field64 i c.args.agg.now c.args.other.now) c.param_of.ensures
