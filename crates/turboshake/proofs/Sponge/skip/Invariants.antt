-- `turboshake::Sponge::skip` meets its contract. The invariant: the bytes that are still to be skipped, from the block's first on. Assumes nothing.
use mathlib.Core.Path.{◌≡◌}
use Prim.Native.Nat.{◌-◌, ◌*◌}
use Rattle.turboshake.specs.Stream.{sponge, after}
use Rattle.turboshake.proofs.Sponge.skip.Given as goal

abbrev pub invariant-loop : goal.invariant-loop
invariant-loop l = after (l.place - 168 * l.counter) (sponge l.lanes 0) ≡ after (l.place - 168 * 0) (sponge l.initial.lanes 0)
