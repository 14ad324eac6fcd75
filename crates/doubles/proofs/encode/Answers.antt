-- `doubles::encode` meets its contract: the rules, and then the element. Assumes nothing.
use Rattle.std.proofs.Common.{sym, ap, ◌∙◌}
use Rattle.field64.specs.Field.{p64}
use Rattle.rules.specs.declared.Answer.{Answer}
use Rattle.doubles.specs.Doubles.{floor_limit64}
use Rattle.doubles.proofs.Accept.{encoded_refused, encoded_accepted}
use Rattle.doubles.proofs.encode.Goals as goal

pub returns-then-answer-ne0 : goal.returns-then-answer-ne0
returns-then-answer-ne0 c =
    encoded_refused floor_limit64 c.args.x c.args.frac_bits p64 c.check_coordinate-answer.result c.check_coordinate-answer.ensures c.if-answer-ne0.true

pub element_of-requires : goal.element_of-requires
element_of-requires c =
    record {
      fact_1 = ap (λ (a : Answer). a.number) (sym c.check_coordinate-answer.ensures) ∙ c.if-answer-ne0.false;
      fact_2 = c.requires;
    }

pub returns : goal.returns
returns c =
    encoded_accepted floor_limit64 c.args.x c.args.frac_bits p64 c.check_coordinate-answer.result c.check_coordinate-answer.ensures c.element_of.result c.if-answer-ne0.false c.element_of.ensures
