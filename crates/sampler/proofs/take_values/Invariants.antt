-- `sampler::take_values` meets its contract. Assumes nothing.
use mathlib.Core.Path.{◌≡◌}
use Prim.Native.Nat.{◌-◌, ◌/◌, ◌≤◌}
use lib.ListN.{length}
use Rattle.field64.specs.Field.{p64}
use Rattle.sampler.specs.Drawing.{Begins}
use Rattle.sampler.proofs.take_values.Given as goal

abbrev pub invariant-loop-count : goal.invariant-loop-count
invariant-loop-count l = ((length l.row ≡ length l.initial.row) × ((l.used ≤ length l.bytes / 8) × (l.count ≤ length l.row))) × Begins p64 l.bytes l.used l.count l.row

abbrev pub decreases-loop-count : goal.decreases-loop-count
decreases-loop-count l = length l.bytes / 8 - l.used
