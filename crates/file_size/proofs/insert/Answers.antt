-- `file_size::insert` meets its contract. Assumes nothing.
use native.Mathlib.Omega.{arith}
use Prim.Native.Nat.{◌-◌}
use Rattle.file_size.proofs.Moved.{moving_start, moving_next, moving_end}
use Rattle.file_size.proofs.insert.Goals as goal

pub loop-at-init : goal.loop-at-init
loop-at-init c = moving_start c.args.i c.args.n c.args.x c.args.row.now c.requires.0 c.requires.1

pub loop-at-preserved : goal.loop-at-preserved
loop-at-preserved c =
    moving_next c.args.i c.args.n c.args.x c.args.row.now c.loop-at.row c.loop-at.carried c.loop-at.at c.requires.0 c.requires.1 c.loop-at.invariant (omega arith)

pub shape_of-row : goal.shape_of-row
shape_of-row c = c.loop-at.invariant.same

pub returns : goal.returns
returns c =
    moving_end c.args.i c.args.n c.args.x c.args.row.now c.loop-at.row c.loop-at.carried c.loop-at.at c.requires.0 c.requires.1 c.loop-at.invariant (omega arith)
