-- `byte_columns::test_of` meets its contract. Assumes nothing.
use mathlib.Core.Path.{◌∙◌}
use native.Mathlib.Omega.{arith}
use Rattle.byte_columns.proofs.Straight.{summed_none, summed_all}
use Rattle.byte_columns.proofs.test_of.Goals as goal

pub loop-j-init : goal.loop-j-init
loop-j-init c =
    summed_none c.args.xs.now c.args.bytes.now c.requires.1.1 _ c.none-sum.ensures

pub returns-then-whole-xs : goal.returns-then-whole-xs
returns-then-whole-xs c =
    c.reduced.ensures ∙ summed_all c.args.xs.now c.args.bytes.now c.requires.1.1 _ _ (omega arith) c.plus_last.ensures

pub returns : goal.returns
returns c =
    c.reduced-2.ensures ∙ summed_all c.args.xs.now c.args.bytes.now c.requires.1.1 _ _ (omega arith) c.loop-j.invariant
