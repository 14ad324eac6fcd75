-- `turboshake::put_block` meets its contract. The invariant: q lanes are xored. Assumes nothing.
use Rattle.turboshake.proofs.Words.{AbsorbsLanes}
use Rattle.turboshake.proofs.put_block.Given as goal

abbrev pub invariant-loop-q : goal.invariant-loop-q
invariant-loop-q l = AbsorbsLanes l.bytes l.initial.lanes l.lanes l.i l.q
