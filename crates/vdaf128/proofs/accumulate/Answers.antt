-- `vdaf128::accumulate` meets its contract. Assumes nothing.
use Rattle.vdaf128.proofs.Verdicts.{lens_refused, lens_met, elements_outcome}
use Rattle.vdaf128.proofs.accumulate.Goals as goal

pub returns-then-lens-ne0 : goal.returns-then-lens-ne0
returns-then-lens-ne0 c = lens_refused _ _ _ _ c.check_lens-lens.ensures c.if-lens-ne0.true

pub add_elements-requires : goal.add_elements-requires
add_elements-requires c =
    lens_met c.args.param c.args.agg.now c.args.share.now _ c.check_lens-lens.ensures c.if-lens-ne0.false

pub returns : goal.returns
returns c =
    elements_outcome _ _ _ _ c.check_lens-lens.ensures c.if-lens-ne0.false _ c.add_elements.ensures
