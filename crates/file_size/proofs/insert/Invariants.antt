-- `file_size::insert` meets its contract. Assumes nothing.
use Prim.Native.Nat.{◌+◌, ◌-◌}
use Rattle.file_size.proofs.Moved.{Moving}
use Rattle.file_size.proofs.insert.Given as goal

abbrev pub invariant-loop-at : goal.invariant-loop-at
invariant-loop-at l = Moving l.i l.n l.x l.initial.row l.row l.carried l.at

abbrev pub decreases-loop-at : goal.decreases-loop-at
decreases-loop-at l = l.n + 1 - l.at
