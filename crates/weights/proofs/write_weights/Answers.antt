-- `weights::write_weights` meets its contract: a row whose elements are replaced from the front, four for each byte. Assumes nothing.
use mathlib.Core.Path.{◌∙◌}
use Prim.Native.Nat.{◌*◌}
use native.Mathlib.Omega.{arith}
use Rattle.rows.proofs.Walk.{walked_end}
use Rattle.weights.proofs.Weights.{weights_long, byte_walked}
use Rattle.weights.proofs.write_weights.Goals as goal

pub loop-k-preserved : goal.loop-k-preserved
loop-k-preserved c =
    rw c.write_byte.ensures (byte_walked c.args.bytes.now c.args.weights.now c.requires.1.1 c.loop-k.weights c.loop-k.k (omega arith) c.loop-k.invariant)

pub returns : goal.returns
returns c =
    c.loop-k.invariant.2 ∙ walked_end _ _ (4 * c.loop-k.k) (weights_long c.args.bytes.now c.args.weights.now c.requires.1.1) (omega arith)
