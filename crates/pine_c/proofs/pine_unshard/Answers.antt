-- `pine_c::pine_unshard` meets its contract. Assumes nothing.
use mathlib.Core.Path.{ap, ◌∙◌}
use Rattle.pine.specs.declared.PineParam.{PineParam}
use Rattle.pine.specs.Param.{Field64}
use Rattle.vdaf.specs.Aggregates.{unshard_of}
use Rattle.pine_c.proofs.pine_unshard.Goals as goal

pub returns : goal.returns
returns c =
    c.unshard.ensures ∙ ap (λ (i : PineParam). unshard_of Field64 i c.args.left.now c.args.right.now c.args.decoded.now) c.param_of.ensures
