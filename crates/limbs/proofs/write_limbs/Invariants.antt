-- `limbs::write_limbs` meets its contract. Assumes nothing.
use Rattle.rows.proofs.Walk.{Walking}
use Rattle.field128.specs.Field128.{elements_of}
use Rattle.limbs.specs.Limbs.{limbs}
use Rattle.limbs.proofs.write_limbs.Given as goal

abbrev pub invariant-loop-i : goal.invariant-loop-i
invariant-loop-i l = Walking (limbs l.k (elements_of l.words)) l.initial.row l.row l.i
