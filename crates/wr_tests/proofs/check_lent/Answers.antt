-- `wr_tests::check_lent` meets its contract. Assumes nothing.
use mathlib.Core.Path.{◌≡◌, sym, ap, ◌∙◌}
use lib.ListN.{length}
use Rattle.rules.specs.declared.Answer.{Answer}
use Rattle.pine.specs.Param.{Field64, param_answer}
use Rattle.pine.proofs.Limits.{limits}
use Rattle.rows.specs.Rows.{row_rule}
use Rattle.wr_tests.proofs.Alone.{tests_answer, stopped}
use Rattle.wr_tests.proofs.check_lent.Lts as lts
use Rattle.wr_tests.proofs.check_lent.Reads as reads
use Rattle.wr_tests.proofs.check_lent.Tie as tie
use Rattle.wr_tests.proofs.check_lent.Goals as goal

abbrev Else-inputs-ne0 : Type 0
Else-inputs-ne0 = lts.Else1 tie.the-claims reads.Pre reads.Post

-- the inputs are accepted
passed : (c : Else-inputs-ne0) → (param_answer Field64 c.args.param).number ≡ 0
passed c = ap (λ (a : Answer). a.number) (sym c.check_param-inputs.ensures) ∙ c.if-inputs-ne0.false

pub returns-then-inputs-ne0 : goal.returns-then-inputs-ne0
returns-then-inputs-ne0 c =
    stopped Field64 c.args.param c.args.gradient.now c.args.stream.now c.args.results.now _ c.check_param-inputs.ensures c.if-inputs-ne0.true

pub stream_len-requires : goal.stream_len-requires
stream_len-requires c =
    let l = limits Field64 _ (passed c.before) in
    (l.tests.1, l.dimension.1)

pub returns : goal.returns
returns c =
    tests_answer Field64 c.args.param c.args.gradient.now c.args.stream.now c.args.results.now _ _ (passed c.before.before.before.before) (c.check_len-row_2.ensures ∙ ap (row_rule 2 (length c.args.stream.now)) c.stream_len.ensures) c.check_rows.ensures
