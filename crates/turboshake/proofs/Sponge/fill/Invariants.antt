-- `turboshake::Sponge::fill` meets its contract. The invariant: the first i bytes are drawn. Assumes nothing.
use Prim.Native.Nat.{◌-◌, ◌≤◌, ◌<◌}
use lib.ListN.{length}
use Rattle.turboshake.specs.Stream.{sponge}
use Rattle.turboshake.proofs.Drawn.{Draws}
use Rattle.turboshake.proofs.Sponge.fill.Given as goal

abbrev pub invariant-loop-i : goal.invariant-loop-i
invariant-loop-i l = ((l.i ≤ length l.initial.out) × (l.at < 168)) × Draws l.initial.out l.out (sponge l.initial.lanes l.initial.at) (sponge l.lanes l.at) l.i

abbrev pub decreases-loop-i : goal.decreases-loop-i
decreases-loop-i l = length l.initial.out - l.i
