-- `turboshake::write_next` meets its contract. Assumes nothing.
use native.Mathlib.Omega.{arith}
use Rattle.turboshake.proofs.Drawn.{wrote_lane, wrote_byte}
use Rattle.turboshake.proofs.write_next.Goals as goal

pub returns-then-room-ge8 : goal.returns-then-room-ge8
returns-then-room-ge8 c =
    ((omega arith, omega arith), (omega arith, wrote_lane c.args.out.now _ c.args.lanes.now c.args.at c.args.i c.requires.0 (omega arith) c.write_lane.ensures))

pub returns : goal.returns
returns c =
    ((omega arith, omega arith), (omega arith, wrote_byte c.args.out.now c.args.lanes.now c.args.at c.args.i c.requires.0 c.requires.1))
