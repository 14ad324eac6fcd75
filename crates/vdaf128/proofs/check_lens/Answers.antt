-- `vdaf128::check_lens` meets its contract. Assumes nothing.
use Rattle.params128.specs.Field128.{Field128}
use Rattle.vdaf.proofs.Verdicts.{inputs_met}
use Rattle.vdaf128.proofs.check_lens.Goals as goal

pub row_len-len-requires : goal.row_len-len-requires
row_len-len-requires c = inputs_met Field128 _ _ c.check_param-inputs.ensures c.if-inputs-ne0.false
