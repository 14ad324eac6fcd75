-- `measurement128::write_elements` meets its contract. Assumes nothing.
use Prim.Native.Nat.{◌*◌}
use Rattle.rows.proofs.Walk.{Walking}
use Rattle.flp.specs.Encode.{elements}
use Rattle.field128.specs.Field128.{p128, words_of}
use Rattle.measurement128.proofs.write_elements.Given as goal

-- the row is the elements' words up to k, and as it was from there
abbrev pub invariant-loop-k : goal.invariant-loop-k
invariant-loop-k l = Walking (words_of (elements p128 l.frac_bits l.gradient)) l.initial.row l.row (2 * l.k)
