-- `sampler::has_values` meets its contract. Assumes nothing.
use mathlib.Core.Path.{◌≡◌}
use Prim.Native.Nat.{◌*◌, ◌<◌}
use lib.ListN.{length}
use lib.Dec.{leb}
use Rattle.field64.specs.Field.{p64}
use Rattle.turboshake.specs.Stream.{drawn}
use Rattle.sampler.specs.Sampler.{values_of}
use Rattle.sampler.proofs.has_values.Given as goal

abbrev pub invariant-loop-rest : goal.invariant-loop-rest
invariant-loop-rest l = ((length l.spare ≡ 63) × (l.state.at < 168)) × (leb l.rest (length (values_of p64 l.draws (drawn (8 * l.draws) l.state))) ≡ leb l.initial.rest (length (values_of p64 l.initial.draws (drawn (8 * l.initial.draws) l.initial.state))))

abbrev pub decreases-loop-rest : goal.decreases-loop-rest
decreases-loop-rest l = l.rest
