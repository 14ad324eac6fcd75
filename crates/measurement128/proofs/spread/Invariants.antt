-- `measurement128::spread` meets its contract. Assumes nothing.
use Rattle.measurement128.proofs.Spreading.{Spreading}
use Rattle.measurement128.proofs.spread.Given as goal

abbrev pub invariant-loop-i : goal.invariant-loop-i
invariant-loop-i l = Spreading l.initial.row l.row l.i
