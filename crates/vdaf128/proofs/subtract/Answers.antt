-- `vdaf128::subtract` meets its contract. Assumes nothing.
use Rattle.params128.specs.Field128.{Field128}
use Rattle.vdaf.proofs.Effects.{accumulate_met, subtract_refused, subtract_done}
use Rattle.vdaf128.proofs.Verdicts.{rows_ready}
use Rattle.vdaf128.proofs.subtract.Goals as goal

pub returns-then-answer-ne0 : goal.returns-then-answer-ne0
returns-then-answer-ne0 c = subtract_refused Field128 _ _ _ _ c.check_accumulate-answer.ensures c.if-answer-ne0.true

pub sub_rows-requires : goal.sub_rows-requires
sub_rows-requires c =
    let both = rows_ready _ _ _ (accumulate_met Field128 _ _ _ _ c.check_accumulate-answer.ensures c.if-answer-ne0.false) in
    record {
      whole = both.0;
      below = both.1;
    }

pub returns : goal.returns
returns c =
    subtract_done Field128 _ _ _ _ c.check_accumulate-answer.ensures c.if-answer-ne0.false _ c.sub_rows.ensures
