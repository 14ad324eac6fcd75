-- `turboshake::put_block` meets its contract. The invariant: q lanes are xored. Assumes nothing.
use native.Mathlib.Omega.{arith}
use Rattle.turboshake.proofs.Words.{lanes_none, lanes_next}
use Rattle.turboshake.proofs.put_block.Goals as goal

pub loop-q-init : goal.loop-q-init
loop-q-init c = lanes_none c.args.bytes.now c.args.lanes.now c.args.i

pub loop-q-preserved : goal.loop-q-preserved
loop-q-preserved c =
    let r = c.read_lane in
    lanes_next c.args.bytes.now c.args.lanes.now c.loop-q.lanes c.args.i c.loop-q.q r.result (omega arith) r.ensures.1 r.ensures.0 c.loop-q.invariant
