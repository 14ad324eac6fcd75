-- `vdaf::empty_aggregate` meets its contract. Assumes nothing.
use mathlib.Core.Path.{refl}
use Rattle.pine.specs.Param.{Field64}
use Rattle.vdaf.proofs.Effects.{empty_refused, empty_done}
use Rattle.vdaf.proofs.empty_aggregate.Goals as goal

pub returns-then-answer-ne0 : goal.returns-then-answer-ne0
returns-then-answer-ne0 c = empty_refused Field64 _ _ _ c.check_empty-answer.ensures c.if-answer-ne0.true

pub returns : goal.returns
returns c =
    empty_done Field64 _ _ _ c.check_empty-answer.ensures (λ n. refl) c.if-answer-ne0.false _ c.zero_row.ensures
