-- `wr_joint_rand::run_blocks` meets its contract. Assumes nothing.
use mathlib.Core.Path.{◌≡◌}
use Prim.Native.Nat.{◌-◌, ◌*◌, ◌≤◌, ◌<◌}
use lib.ListN.{length}
use Rattle.field64.specs.Field.{p64}
use Rattle.turboshake.specs.Stream.{after}
use Rattle.wr_joint_rand.proofs.Blocks.{Done}
use Rattle.wr_joint_rand.proofs.run_blocks.Given as goal

abbrev pub invariant-loop-t : goal.invariant-loop-t
invariant-loop-t l = (l.t ≤ length l.initial.results) × (length l.buffer ≡ length l.initial.buffer) × (length l.results ≡ length l.initial.results) × (l.state.at < 168) × (l.state ≡ after (l.t * l.per) l.initial.state) × Done p64 l.per l.gradient l.initial.state l.t l.results

abbrev pub decreases-loop-t : goal.decreases-loop-t
decreases-loop-t l = length l.initial.results - l.t
