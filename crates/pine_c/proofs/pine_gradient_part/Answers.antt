-- `pine_c::pine_gradient_part` meets its contract. Assumes nothing.
use mathlib.Core.Path.{ap, ◌∙◌}
use Rattle.pine.specs.declared.PineParam.{PineParam}
use Rattle.rules.specs.Rules.{in_order}
use Rattle.pine.specs.Param.{Field64}
use Rattle.flp.specs.Circuits.{part_rules, gradient_part_of}
use Rattle.parts.specs.Places.{part_at}
use Rattle.pine_c.proofs.pine_gradient_part.Goals as goal

pub returns : goal.returns
returns c =
    let e = c.param_of.ensures in
    record {
      value = c.locate_gradient.ensures.value ∙ ap (λ (i : PineParam). part_at (in_order (part_rules Field64 i c.args.full.now)) 0 i.dimension) e;
      full_value = c.locate_gradient.ensures.full_value ∙ ap (λ (i : PineParam). gradient_part_of Field64 i c.args.full.now) e;
    }
