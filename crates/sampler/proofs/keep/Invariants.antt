-- `sampler::keep` meets its contract. Assumes nothing.
use Rattle.field64.specs.Field.{p64}
use Rattle.sampler.proofs.Keeping.{Keeping}
use Rattle.sampler.proofs.keep.Given as goal

abbrev pub invariant-loop-i : goal.invariant-loop-i
invariant-loop-i l = Keeping p64 l.initial.row l.row l.k l.i
