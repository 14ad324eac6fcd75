-- `turboshake::put_word` meets its contract. Assumes nothing.
use mathlib.Core.Path.{sym, ◌∙◌}
use native.Mathlib.Omega.{arith}
use Rattle.turboshake.proofs.Words.{word_aligned, across_below, word_across}
use Rattle.turboshake.proofs.put_word.Goals as goal

pub returns-then-skip-eq0 : goal.returns-then-skip-eq0
returns-then-skip-eq0 c =
    (c.advance.ensures.0 ∙ sym (word_aligned c.args.w c.args.at c.args.lanes.now c.ranges.w.fits c.requires (omega arith)), c.advance.ensures.1)

pub returns : goal.returns
returns c =
    let some = c.if-skip-eq0.false in
    let on = c.advance-next.ensures.0 in
    let next = c.advance-next.result in
    let lanes = c.advance-next.new.lanes in
    (sym (word_across c.args.w c.args.at c.args.lanes.now next lanes c.ranges.w.fits c.requires some on), across_below c.args.w c.args.at c.args.lanes.now next lanes c.ranges.w.fits c.requires some on)
