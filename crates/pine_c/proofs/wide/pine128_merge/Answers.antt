-- `pine_c::wide::pine128_merge` meets its contract. Assumes nothing.
use mathlib.Core.Path.{ap, ◌∙◌}
use Rattle.pine.specs.declared.PineParam.{PineParam}
use Rattle.vdaf.specs.Aggregates.{accumulate_of}
use Rattle.params128.specs.Field128.{Field128}
use Rattle.pine_c.proofs.wide.pine128_merge.Goals as goal

pub returns : goal.returns
returns c =
    c.merge.ensures ∙ ap (λ (i : PineParam). accumulate_of Field128 i c.args.agg.now c.args.other.now) c.param_of.ensures
