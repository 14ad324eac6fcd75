-- `sampler::draw_by` meets its contract. Assumes nothing.
use mathlib.Core.Path.{◌≡◌}
use Prim.Native.Nat.{◌-◌, min}
use lib.ListN.{length}
use Rattle.field64.specs.Field.{p64}
use Rattle.sampler.specs.Drawing.{Drawing}
use Rattle.sampler.proofs.draw_by.Given as goal

abbrev pub invariant-loop-n : goal.invariant-loop-n
invariant-loop-n l = (((length l.bytes ≡ length l.initial.bytes) × (length l.row ≡ length l.initial.row)) × (l.n ≡ min (min (length l.row - l.drew.count) l.drew.left) 63)) × Drawing p64 l.initial.drew.stream l.left l.drew l.row

abbrev pub decreases-loop-n : goal.decreases-loop-n
decreases-loop-n l = l.drew.left
