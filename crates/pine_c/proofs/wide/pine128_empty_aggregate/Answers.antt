-- `pine_c::wide::pine128_empty_aggregate` meets its contract. Assumes nothing.
use mathlib.Core.Path.{ap, ◌∙◌}
use Rattle.pine.specs.declared.PineParam.{PineParam}
use Rattle.vdaf.specs.Aggregates.{empty_of}
use Rattle.params128.specs.Field128.{Field128}
use Rattle.pine_c.proofs.wide.pine128_empty_aggregate.Goals as goal

pub returns : goal.returns
returns c =
    c.empty_aggregate.ensures ∙ ap (λ (i : PineParam). empty_of Field128 i c.args.row.now) c.param_of.ensures
