-- `vdaf::check_empty` meets its contract. Assumes nothing.
use Rattle.pine.specs.Param.{Field64}
use Rattle.pine.proofs.Sizes.{derivable_64}
use Rattle.vdaf.proofs.Verdicts.{empty_stopped, inputs_met, empty_verdict}
use Rattle.vdaf.proofs.check_empty.Goals as goal

pub returns-then-inputs-ne0 : goal.returns-then-inputs-ne0
returns-then-inputs-ne0 c = empty_stopped Field64 _ _ c.check_param-inputs.ensures _ c.if-inputs-ne0.true

pub new-pine-requires : goal.new-pine-requires
new-pine-requires c = derivable_64 (inputs_met Field64 _ _ c.check_param-inputs.ensures c.if-inputs-ne0.false)

pub returns : goal.returns
returns c =
    empty_verdict Field64 _ _ c.check_param-inputs.ensures c.if-inputs-ne0.false _ c.new-pine.ensures _ _ c.check_len.ensures
