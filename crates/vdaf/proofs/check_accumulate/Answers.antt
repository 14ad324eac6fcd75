-- `vdaf::check_accumulate` meets its contract. Assumes nothing.
use Rattle.pine.specs.Param.{Field64}
use Rattle.vdaf.proofs.Verdicts.{accumulate_verdict}
use Rattle.vdaf.proofs.check_accumulate.Goals as goal

pub returns : goal.returns
returns c = accumulate_verdict Field64 _ _ _ _ _ c.check_lens-lens.ensures c.or_elements.ensures
