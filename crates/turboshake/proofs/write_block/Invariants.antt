-- `turboshake::write_block` meets its contract. The invariant: the bytes of q lanes are written. Assumes nothing.
use Prim.Native.Nat.{◌*◌}
use Rattle.turboshake.specs.Stream.{sponge}
use Rattle.turboshake.proofs.Drawn.{Wrote}
use Rattle.turboshake.proofs.write_block.Given as goal

abbrev pub invariant-loop-q : goal.invariant-loop-q
invariant-loop-q l = Wrote l.initial.out l.out l.i (8 * l.q) (sponge l.lanes 0)
