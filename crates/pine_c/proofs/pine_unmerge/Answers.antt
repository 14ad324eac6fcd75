-- `pine_c::pine_unmerge` meets its contract. Assumes nothing.
use mathlib.Core.Path.{ap, ◌∙◌}
use Rattle.pine.specs.declared.PineParam.{PineParam}
use Rattle.pine.specs.Param.{Field64}
use Rattle.vdaf.specs.Aggregates.{subtract_of}
use Rattle.pine_c.proofs.pine_unmerge.Goals as goal

pub returns : goal.returns
returns c =
    c.unmerge.ensures ∙ ap (λ (i : PineParam). subtract_of Field64 i c.args.agg.now c.args.other.now) c.param_of.ensures
