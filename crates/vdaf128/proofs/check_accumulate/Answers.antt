-- `vdaf128::check_accumulate` meets its contract. Assumes nothing.
use Rattle.params128.specs.Field128.{Field128}
use Rattle.vdaf.proofs.Verdicts.{accumulate_verdict}
use Rattle.vdaf128.proofs.check_accumulate.Goals as goal

pub returns : goal.returns
returns c = accumulate_verdict Field128 _ _ _ _ _ c.check_lens-lens.ensures c.or_elements.ensures
