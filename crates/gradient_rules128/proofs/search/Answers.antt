-- `gradient_rules128::search` meets its contract. The invariant: the answer for the gradient is that for the rest, counted from i. Assumes nothing.
use mathlib.Core.Path.{◌∙◌}
use native.Mathlib.Omega.{arith}
use lib.Ieee.{nan}
use Rattle.doubles128.specs.Doubles128.{floor_limit128}
use Rattle.gradient_rules.proofs.Searches.{coordinates_next, coordinates_stop, coordinates_end}
use Rattle.gradient_rules128.proofs.search.Goals as goal

pub returns-then-answer-ne0 : goal.returns-then-answer-ne0
returns-then-answer-ne0 c =
    coordinates_stop floor_limit128 c.args.frac_bits nan c.args.gradient.now c.loop-i.i (omega arith) c.loop-i.invariant c.check_coordinate-answer.result c.check_coordinate-answer.ensures c.if-answer-ne0.true

pub loop-i-preserved : goal.loop-i-preserved
loop-i-preserved c =
    coordinates_next floor_limit128 c.args.frac_bits nan c.args.gradient.now c.loop-i.i (omega arith) c.loop-i.invariant c.check_coordinate-answer.result c.check_coordinate-answer.ensures c.if-answer-ne0.false

pub returns : goal.returns
returns c =
    c.accepted.ensures ∙ coordinates_end floor_limit128 c.args.frac_bits c.args.gradient.now c.loop-i.i (omega arith) c.loop-i.invariant
