-- `pine_c::wide::pine128_subtract` meets its contract. Assumes nothing.
use mathlib.Core.Path.{ap, ◌∙◌}
use Rattle.pine.specs.declared.PineParam.{PineParam}
use Rattle.vdaf.specs.Aggregates.{subtract_of}
use Rattle.params128.specs.Field128.{Field128}
use Rattle.pine_c.proofs.wide.pine128_subtract.Goals as goal

pub returns : goal.returns
returns c =
    c.subtract.ensures ∙ ap (λ (i : PineParam). subtract_of Field128 i c.args.agg.now c.args.share.now) c.param_of.ensures
