-- `limbs::join_rows` meets its contract. Assumes nothing.
use Rattle.std.proofs.Common.{◌*◌}
use Rattle.rows.proofs.Walk.{Walking}
use Rattle.field128.specs.Field128.{words_of}
use Rattle.limbs.specs.Limbs.{modulus_of, joined_rows}
use Rattle.limbs.proofs.join_rows.Given as goal

abbrev pub invariant-loop-i : goal.invariant-loop-i
invariant-loop-i l = Walking (words_of (joined_rows (modulus_of l.reduced) l.low l.middle l.high)) l.initial.results l.results (2 * l.i)
