-- `weights::write_weights` meets its contract: a row whose elements are replaced from the front, four for each byte. Assumes nothing.
use Prim.Native.Nat.{◌*◌}
use Rattle.rows.proofs.Walk.{Walking}
use Rattle.weights.specs.Weights.{weights_of}
use Rattle.weights.proofs.write_weights.Given as goal

abbrev pub invariant-loop-k : goal.invariant-loop-k
invariant-loop-k l = Walking (weights_of l.bytes) l.initial.weights l.weights (4 * l.k)
