-- `weights::plain_sum` meets its contract. Assumes nothing.
use native.Mathlib.Omega.{arith}
use lib.Dec.{lit<}
use Rattle.field64.specs.Field.{p64}
use Rattle.sums.specs.Unreduced.{halves_of}
use Rattle.weights.proofs.Weights.{sum_start, plain_next, half_next}
use Rattle.weights.proofs.plain_sum.Goals as goal

pub loop-x-init : goal.loop-x-init
loop-x-init c = ((rw c.none-sum.ensures (omega arith), rw c.none-sum.ensures (omega arith)), rw c.none-sum.ensures (sum_start p64 (lit< tt) c.args.xs.now))

pub loop-x-preserved : goal.loop-x-preserved
loop-x-preserved c =
    let e = c.plus-sum.ensures in (
      (half_next c.loop-x.x-index _ _ c.loop-x.invariant.0.0 e.1.0, half_next c.loop-x.x-index _ _ c.loop-x.invariant.0.1 e.1.1),
      plain_next p64 (lit< tt) (halves_of c.loop-x.sum) (halves_of c.plus-sum.result) c.loop-x.x-index c.args.xs.now (omega arith) c.loop-x.invariant.1 e.0,
    )
