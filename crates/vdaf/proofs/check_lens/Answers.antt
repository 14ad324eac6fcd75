-- `vdaf::check_lens` meets its contract. Assumes nothing.
use Rattle.pine.specs.Param.{Field64}
use Rattle.pine.proofs.Sizes.{derivable_64}
use Rattle.vdaf.proofs.Verdicts.{stopped, inputs_met, lens_verdict}
use Rattle.vdaf.proofs.check_lens.Goals as goal

pub returns-then-inputs-ne0 : goal.returns-then-inputs-ne0
returns-then-inputs-ne0 c = stopped Field64 _ _ c.check_param-inputs.ensures _ c.if-inputs-ne0.true

pub new-pine-requires : goal.new-pine-requires
new-pine-requires c = derivable_64 (inputs_met Field64 _ _ c.check_param-inputs.ensures c.if-inputs-ne0.false)

pub returns : goal.returns
returns c =
    lens_verdict Field64 _ _ c.check_param-inputs.ensures c.if-inputs-ne0.false _ c.new-pine.ensures _ _ _ _ _ c.check_len-left_len.ensures c.check_len-right_len.ensures c.or.ensures
