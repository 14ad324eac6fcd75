-- `turboshake::Sponge::fill` meets its contract. The invariant: the first i bytes are drawn. Assumes nothing.
use mathlib.Core.Path.{refl}
use native.Mathlib.Omega.{arith}
use borrow.Author.Rules.{rules}
use Rattle.turboshake.specs.Stream.{after}
use Rattle.turboshake.proofs.Drawn.{wrote_none, draws_next}
use Rattle.turboshake.proofs.Sponge.fill.Goals as goal

pub loop-i-init : goal.loop-i-init
unfolding after
loop-i-init c = (search rules, (wrote_none c.args.out.now 0 c.args.self, refl))

pub loop-i-preserved : goal.loop-i-preserved
loop-i-preserved c =
    let w = c.write_next-n in
    let l = c.loop-i in
    ((omega arith, c.advance-at.ensures.1), draws_next c.args.out.now l.out _ c.args.self _ l.lanes l.at l.i w.result w.ensures.0.0 w.ensures.0.1 l.invariant.0.0 l.invariant.1 w.ensures.1.1 c.advance-at.ensures.0)
