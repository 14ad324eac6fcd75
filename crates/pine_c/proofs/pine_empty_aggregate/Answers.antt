-- `pine_c::pine_empty_aggregate` meets its contract. Assumes nothing.
use mathlib.Core.Path.{ap, ◌∙◌}
use Rattle.pine.specs.declared.PineParam.{PineParam}
use Rattle.pine.specs.Param.{Field64}
use Rattle.vdaf.specs.Aggregates.{empty_of}
use Rattle.pine_c.proofs.pine_empty_aggregate.Goals as goal

pub returns : goal.returns
returns c =
    c.empty_aggregate.ensures ∙ ap (λ (i : PineParam). empty_of Field64 i c.args.row.now) c.param_of.ensures
