-- `octets::copy_bytes` meets its contract. Assumes nothing.
use mathlib.Core.Path.{◌≡◌}
use mathlib.Core.List.{List}
use Prim.Native.Nat.{ℕ, ◌≤◌}
use lib.ListN.{length}
use Rattle.rows.proofs.Walk.{walked}
use Rattle.octets.proofs.copy_bytes.Given as goal

-- the invariant: the row is the other up to i, and as it was from there
abbrev pub Inv : (r d a : List ℕ) (i : ℕ) → Type 0
Inv r d a i = (i ≤ length d) × (length a ≡ length d) × (a ≡ walked r d i)

abbrev pub invariant-loop-i : goal.invariant-loop-i
invariant-loop-i l = Inv l.from l.initial.to l.to l.i
