-- `columns128::run_groups` meets its contract: after the bytes before j, each sum is over the first 4j coordinates. Assumes nothing.
use mathlib.Core.Path.{◌≡◌}
use Prim.Native.Nat.{◌-◌, ◌≤◌}
use lib.ListN.{length}
use Rattle.field128.specs.Field128.{elements_of}
use Rattle.limbs.specs.Limbs.{limbs, modulus_for}
use Rattle.limbs.proofs.Summed.{Summed}
use Rattle.columns128.proofs.run_groups.Given as goal

abbrev pub invariant-loop-j : goal.invariant-loop-j
invariant-loop-j l = (l.j ≤ l.per) × ((length l.row ≡ length l.initial.row) × (length l.spare ≡ length l.initial.spare)) × (Summed (modulus_for (length l.initial.low)) l.per l.stream (limbs 0 (elements_of l.gradient)) (length l.initial.low) l.j l.low × (Summed (modulus_for (length l.initial.low)) l.per l.stream (limbs 1 (elements_of l.gradient)) (length l.initial.low) l.j l.middle × Summed (modulus_for (length l.initial.low)) l.per l.stream (limbs 2 (elements_of l.gradient)) (length l.initial.low) l.j l.high))

abbrev pub decreases-loop-j : goal.decreases-loop-j
decreases-loop-j l = l.per - l.j
