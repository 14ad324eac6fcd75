-- `load::read_full`: the measure is how many bytes of the row are left. Assumes nothing.
use Rattle.std.proofs.Common.{◌-◌, ◌≤◌, length}
use Rattle.load.proofs.read_full.Given as goal

abbrev pub invariant-loop-have : goal.invariant-loop-have
invariant-loop-have g l = l.have ≤ length l.row

abbrev pub decreases-loop-have : goal.decreases-loop-have
decreases-loop-have g l = length l.row - l.have
