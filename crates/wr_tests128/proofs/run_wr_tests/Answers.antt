-- `wr_tests128::run_wr_tests` meets its contract. Assumes nothing.
use Rattle.params128.specs.Field128.{Field128}
use Rattle.wr_tests.proofs.Alone.{refused}
use Rattle.wr_tests128.proofs.Room.{asked, left}
use Rattle.wr_tests128.proofs.run_wr_tests.Goals as goal

pub returns-then-answer-ne0 : goal.returns-then-answer-ne0
returns-then-answer-ne0 c =
    refused Field128 c.args.param c.args.gradient.now c.args.stream.now c.args.results.now _ c.check_lent-answer.ensures c.if-answer-ne0.true

pub run_block-requires : goal.run_block-requires
run_block-requires c =
    let both = asked c.args.param c.args.gradient.now c.args.stream.now c.args.results.now _ c.check_lent-answer.ensures c.if-answer-ne0.false in
    record {
      per_in_bounds = both.0;
      whole = both.1;
    }

pub returns : goal.returns
returns c =
    left c.args.param c.args.gradient.now c.args.stream.now c.args.results.now _ c.check_lent-answer.ensures c.if-answer-ne0.false _ c.run_block.ensures
