-- `pine_c::wide::pine128_unshard` meets its contract. Assumes nothing.
use mathlib.Core.Path.{ap, ◌∙◌}
use Rattle.pine.specs.declared.PineParam.{PineParam}
use Rattle.vdaf.specs.Aggregates.{unshard_of}
use Rattle.params128.specs.Field128.{Field128}
use Rattle.pine_c.proofs.wide.pine128_unshard.Goals as goal

pub returns : goal.returns
returns c =
    c.unshard.ensures ∙ ap (λ (i : PineParam). unshard_of Field128 i c.args.left.now c.args.right.now c.args.decoded.now) c.param_of.ensures
