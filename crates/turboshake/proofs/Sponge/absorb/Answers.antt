-- `turboshake::Sponge::absorb` meets its contract. The invariant: the bytes that are left take the state to where all take the first one. Assumes nothing.
use mathlib.Core.Path.{◌∙◌}
use Rattle.turboshake.specs.Stream.{sponge}
use Rattle.turboshake.proofs.Moved.{absorbs_part}
use Rattle.turboshake.proofs.Sponge.absorb.Goals as goal

pub loop-i-preserved : goal.loop-i-preserved
loop-i-preserved c =
    let e = c.advance-at.ensures in
    let n = c.put_next-n in
    ((n.ensures.1.0, e.1), absorbs_part c.args.bytes.now c.args.self (sponge c.loop-i.lanes c.loop-i.at) _ c.loop-i.i n.result c.loop-i.invariant.1 (e.0 ∙ n.ensures.1.1))
