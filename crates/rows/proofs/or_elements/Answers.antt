-- `rows::or_elements` meets its contract. Assumes nothing.
use Rattle.std.proofs.Common.{sym}
use Rattle.field64.specs.Field.{p64}
use Rattle.rules.proofs.Chain.{first_refused}
use Rattle.rows.proofs.Elements.{elements_after}
use Rattle.rows.proofs.or_elements.Goals as goal

pub returns-then-so_far-ne0 : goal.returns-then-so_far-ne0
returns-then-so_far-ne0 c = sym (first_refused _ _ c.if-so_far-ne0.true)

pub returns : goal.returns
returns c =
    elements_after p64 c.args.left.now c.args.right.now c.args.so_far _ _ _ c.if-so_far-ne0.false c.check_elements-in_left.ensures c.check_elements-in_right.ensures c.or.ensures
