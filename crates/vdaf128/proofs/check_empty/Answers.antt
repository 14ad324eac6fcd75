-- `vdaf128::check_empty` meets its contract. Assumes nothing.
use Rattle.params128.specs.Field128.{Field128}
use Rattle.vdaf.proofs.Verdicts.{empty_stopped, inputs_met}
use Rattle.vdaf128.proofs.Verdicts.{empty_by_words}
use Rattle.vdaf128.proofs.check_empty.Goals as goal

pub returns-then-inputs-ne0 : goal.returns-then-inputs-ne0
returns-then-inputs-ne0 c = empty_stopped Field128 _ _ c.check_param-inputs.ensures _ c.if-inputs-ne0.true

pub row_len-requires : goal.row_len-requires
row_len-requires c = inputs_met Field128 _ _ c.check_param-inputs.ensures c.if-inputs-ne0.false

pub returns : goal.returns
returns c =
    empty_by_words _ _ c.check_param-inputs.ensures c.if-inputs-ne0.false _ c.row_len.ensures _ _ c.check_len.ensures
