-- `doubles128::encode` meets its contract: the rules, and then the element. Assumes nothing.
use Rattle.field128.specs.Field128.{p128, number_of}
use Rattle.doubles128.specs.Doubles128.{floor_limit128}
use Rattle.doubles.proofs.Accept.{encoded_refused, encoded_accepted}
use Rattle.doubles128.proofs.encode.Goals as goal

pub returns-then-answer-ne0 : goal.returns-then-answer-ne0
returns-then-answer-ne0 c =
    encoded_refused floor_limit128 c.args.x c.args.frac_bits p128 c.check_coordinate-answer.result c.check_coordinate-answer.ensures c.if-answer-ne0.true

pub returns : goal.returns
returns c =
    encoded_accepted floor_limit128 c.args.x c.args.frac_bits p128 c.check_coordinate-answer.result c.check_coordinate-answer.ensures (number_of c.element_of.result) c.if-answer-ne0.false c.element_of.ensures
