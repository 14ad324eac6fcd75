-- `vdaf::accumulate` meets its contract. Assumes nothing.
use mathlib.Core.Path.{sym, ◌∙◌}
use Rattle.pine.specs.Param.{Field64}
use Rattle.vdaf.proofs.Effects.{accumulate_refused, accumulate_met, accumulate_done}
use Rattle.vdaf.proofs.accumulate.Goals as goal

pub returns-then-answer-ne0 : goal.returns-then-answer-ne0
returns-then-answer-ne0 c = accumulate_refused Field64 _ _ _ _ c.check_accumulate-answer.ensures c.if-answer-ne0.true

pub add_rows-requires : goal.add_rows-requires
add_rows-requires c =
    let t = accumulate_met Field64 _ _ _ _ c.check_accumulate-answer.ensures c.if-answer-ne0.false in
    (t.left_long ∙ sym t.right_long, (t.left_below, t.right_below))

pub returns : goal.returns
returns c =
    accumulate_done Field64 _ _ _ _ c.check_accumulate-answer.ensures c.if-answer-ne0.false _ c.add_rows.ensures
