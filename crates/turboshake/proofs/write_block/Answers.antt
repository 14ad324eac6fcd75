-- `turboshake::write_block` meets its contract. The invariant: the bytes of q lanes are written. Assumes nothing.
use native.Mathlib.Omega.{arith}
use Rattle.turboshake.specs.Stream.{sponge}
use Rattle.turboshake.proofs.Drawn.{wrote_none, block_next}
use Rattle.turboshake.proofs.write_block.Goals as goal

pub loop-q-init : goal.loop-q-init
loop-q-init c = wrote_none c.args.out.now c.args.i (sponge c.args.lanes.now 0)

pub loop-q-preserved : goal.loop-q-preserved
loop-q-preserved c =
    block_next c.args.out.now c.loop-q.out _ c.args.lanes.now c.args.i c.loop-q.q (omega arith) c.requires c.loop-q.invariant c.write_lane.ensures
