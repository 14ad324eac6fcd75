-- `pine_c::pine_checked_part` meets its contract. Assumes nothing.
use mathlib.Core.Path.{ap, ◌∙◌}
use Rattle.pine.specs.declared.PineParam.{PineParam}
use Rattle.rules.specs.Rules.{in_order}
use Rattle.pine.specs.Param.{Field64}
use Rattle.pine.specs.Record.{bit_checked_len_of}
use Rattle.flp.specs.Circuits.{part_rules, checked_part_of}
use Rattle.parts.specs.Places.{part_at}
use Rattle.pine_c.proofs.pine_checked_part.Goals as goal

pub returns : goal.returns
returns c =
    let e = c.param_of.ensures in
    record {
      value = c.locate_checked.ensures.value ∙ ap (λ (i : PineParam). part_at (in_order (part_rules Field64 i c.args.full.now)) i.dimension (bit_checked_len_of i)) e;
      full_value = c.locate_checked.ensures.full_value ∙ ap (λ (i : PineParam). checked_part_of Field64 i c.args.full.now) e;
    }
