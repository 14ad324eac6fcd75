-- `vdaf::subtract` meets its contract. Assumes nothing.
use mathlib.Core.Path.{sym, ◌∙◌}
use Rattle.pine.specs.Param.{Field64}
use Rattle.vdaf.proofs.Effects.{accumulate_met, subtract_refused, subtract_done}
use Rattle.vdaf.proofs.subtract.Goals as goal

pub returns-then-answer-ne0 : goal.returns-then-answer-ne0
returns-then-answer-ne0 c = subtract_refused Field64 _ _ _ _ c.check_accumulate-answer.ensures c.if-answer-ne0.true

pub sub_rows-requires : goal.sub_rows-requires
sub_rows-requires c =
    let t = accumulate_met Field64 _ _ _ _ c.check_accumulate-answer.ensures c.if-answer-ne0.false in
    (t.left_long ∙ sym t.right_long, (t.left_below, t.right_below))

pub returns : goal.returns
returns c =
    subtract_done Field64 _ _ _ _ c.check_accumulate-answer.ensures c.if-answer-ne0.false _ c.sub_rows.ensures
