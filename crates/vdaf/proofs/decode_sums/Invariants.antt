-- `vdaf::decode_sums` meets its contract. Assumes nothing.
use mathlib.Core.List.{List}
use Prim.Native.Nat.{ℕ}
use lib.Ieee.{Float}
use Rattle.field64.specs.Field.{p64}
use Rattle.rows.proofs.Walk.{Walking}
use Rattle.vdaf.specs.Aggregates.{decoded_sums}
use Rattle.vdaf.proofs.decode_sums.Given as goal

-- the invariant: the row is the decoded sums up to i, and as it was from there
abbrev pub Inv : (f : ℕ) (l r : List ℕ) (d a : List Float) (i : ℕ) → Type 0
Inv f l r d a i = Walking (decoded_sums p64 f l r) d a i

abbrev pub invariant-loop-i : goal.invariant-loop-i
invariant-loop-i l = Inv l.frac_bits l.left l.right l.initial.decoded l.decoded l.i
