-- `vdaf128::empty_aggregate` meets its contract. Assumes nothing.
use Rattle.params128.specs.Field128.{Field128}
use Rattle.field128.proofs.Pairs.{words_of_zeros}
use Rattle.vdaf.proofs.Effects.{empty_refused, empty_done}
use Rattle.vdaf128.proofs.empty_aggregate.Goals as goal

pub returns-then-answer-ne0 : goal.returns-then-answer-ne0
returns-then-answer-ne0 c = empty_refused Field128 _ _ _ c.check_empty-answer.ensures c.if-answer-ne0.true

pub returns : goal.returns
returns c =
    empty_done Field128 _ _ _ c.check_empty-answer.ensures words_of_zeros c.if-answer-ne0.false _ c.zero_row.ensures
