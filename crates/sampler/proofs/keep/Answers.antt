-- `sampler::keep` meets its contract. Assumes nothing.
use native.Mathlib.Omega.{arith}
use mathlib.Core.Path.{refl}
use Rattle.field64.specs.Field.{p64}
use Rattle.sampler.proofs.Keeping.{keeping_none, keeping_next}
use Rattle.sampler.proofs.keep.Goals as goal

pub loop-i-init : goal.loop-i-init
loop-i-init c = keeping_none p64 _

pub loop-i-preserved : goal.loop-i-preserved
loop-i-preserved c =
    keeping_next p64 c.args.row.now c.loop-i.row c.loop-i.k c.loop-i.i c.loop-i.invariant (omega arith) _ refl
