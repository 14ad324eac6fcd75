-- `wr_tests128::check_lent` meets its contract. Assumes nothing.
use mathlib.Core.Path.{◌≡◌, sym, ap, ◌∙◌}
use Prim.Native.Nat.{◌≤◌}
use lib.ListN.{length}
use Rattle.rules.specs.declared.Answer.{Answer}
use Rattle.pine.specs.Param.{param_answer}
use Rattle.pine.proofs.Limits.{limits}
use Rattle.params128.specs.Field128.{Field128}
use Rattle.rows.specs.Rows.{row_rule}
use Rattle.wr_tests.proofs.Alone.{tests_answer, stopped}
use Rattle.wr_tests128.proofs.check_lent.Lts as lts
use Rattle.wr_tests128.proofs.check_lent.Reads as reads
use Rattle.wr_tests128.proofs.check_lent.Tie as tie
use Rattle.wr_tests128.proofs.check_lent.Goals as goal

abbrev Else-inputs-ne0 : Type 0
Else-inputs-ne0 = lts.Else1 tie.the-claims reads.Pre reads.Post

-- the inputs are accepted
passed : (c : Else-inputs-ne0) → (param_answer Field128 c.args.param).number ≡ 0
passed c = ap (λ (a : Answer). a.number) (sym c.check_param-inputs.ensures) ∙ c.if-inputs-ne0.false

few : (c : Else-inputs-ne0) → let i = c.args.param in (i.num_wr_tests ≤ 256) × (i.dimension ≤ 65536)
few c =
    let l = limits Field128 _ (passed c) in
    (l.tests.1, l.dimension.1)

pub returns-then-inputs-ne0 : goal.returns-then-inputs-ne0
returns-then-inputs-ne0 c =
    stopped Field128 c.args.param c.args.gradient.now c.args.stream.now c.args.results.now _ c.check_param-inputs.ensures c.if-inputs-ne0.true

pub stream_len-requires : goal.stream_len-requires
stream_len-requires c = few c.before

pub check_rows-requires : goal.check_rows-requires
check_rows-requires c = few c.before.before.before

pub returns : goal.returns
returns c =
    tests_answer Field128 c.args.param c.args.gradient.now c.args.stream.now c.args.results.now _ _ (passed c.before.before.before.before) (c.check_len-row_2.ensures ∙ ap (row_rule 2 (length c.args.stream.now)) c.stream_len.ensures) c.check_rows.ensures
