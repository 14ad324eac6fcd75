-- `wr_tests::run_wr_tests` meets its contract. Assumes nothing.
use mathlib.Core.Path.{sym}
use native.Mathlib.Nat.{le_of_eq}
use native.Mathlib.Omega.{arith}
use Rattle.pine.specs.Param.{Field64}
use Rattle.pine.proofs.Words.{words_64}
use Rattle.wr_tests.proofs.Alone.{refused, met, room, done}
use Rattle.wr_tests.proofs.run_wr_tests.Goals as goal

pub returns-then-answer-ne0 : goal.returns-then-answer-ne0
returns-then-answer-ne0 c =
    refused Field64 c.args.param c.args.gradient.now c.args.stream.now c.args.results.now _ c.check_lent-answer.ensures c.if-answer-ne0.true

pub run_lent-requires : goal.run_lent-requires
run_lent-requires c =
    let v = c.check_lent-answer.ensures in
    let z = c.if-answer-ne0.false in
    let m = met Field64 c.args.param c.args.gradient.now c.args.stream.now c.args.results.now _ v z in
    let w = room Field64 c.args.param c.args.gradient.now c.args.stream.now c.args.results.now _ v z words_64 in
    record {
      results_nonzero = ((w.tests.0, rw w.whole (le_of_eq (sym m.row_2))), (w.per.1, omega (arith, w.per.0.1)));
      below = m.below;
    }

pub returns : goal.returns
returns c =
    let v = c.check_lent-answer.ensures in
    let z = c.if-answer-ne0.false in
    done Field64 c.args.param c.args.gradient.now c.args.stream.now c.args.results.now _ v z words_64 _ c.run_lent.ensures
