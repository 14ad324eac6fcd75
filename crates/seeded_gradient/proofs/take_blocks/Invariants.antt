-- `seeded_gradient::take_blocks` meets its contract. Assumes nothing.
use mathlib.Core.Path.{◌≡◌}
use Prim.Native.Nat.{◌-◌, ◌*◌, ◌≤◌, ◌<◌}
use lib.ListN.{length}
use Rattle.field64.specs.Field.{p64}
use Rattle.flp.specs.Encode.{elements}
use Rattle.turboshake.specs.declared.Sponge.{Sponge}
use Rattle.turboshake.specs.Stream.{after}
use Rattle.wr_joint_rand.proofs.Blocks.{Done}
use Rattle.seeded_gradient.proofs.take_blocks.Given as goal

abbrev pub invariant-loop-t : goal.invariant-loop-t
invariant-loop-t l = (l.t ≤ length l.initial.results) × (length l.results ≡ length l.initial.results) × (l.state.at < 168) × ((s : Sponge) → l.initial.state ≡ after (l.first * l.per) s → Done p64 l.per (elements p64 l.frac_bits l.gradient) s l.first l.initial.results → (l.state ≡ after (l.t * l.per) s) × Done p64 l.per (elements p64 l.frac_bits l.gradient) s l.t l.results)

abbrev pub decreases-loop-t : goal.decreases-loop-t
decreases-loop-t l = length l.initial.results - l.t
