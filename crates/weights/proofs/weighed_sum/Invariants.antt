-- `weights::weighed_sum` meets its contract. Assumes nothing.
use mathlib.Core.Path.{◌≡◌}
use Prim.Native.Nat.{◌*◌, ◌%◌, ◌^◌, ◌≤◌}
use lib.ListN.{length, take}
use Rattle.field64.specs.Field.{p64, mul_mod}
use Rattle.field64.specs.Sums.{total}
use Rattle.sums.specs.Unreduced.{halves_of}
use Rattle.rows.specs.Rows.{by_element}
use Rattle.weights.proofs.weighed_sum.Given as goal

abbrev pub invariant-loop-x : goal.invariant-loop-x
invariant-loop-x l = ((l.sum.high ≤ length l.yielded * 2 ^ 33) × (l.sum.low ≤ length l.yielded * 2 ^ 33)) × (halves_of l.sum % p64 ≡ total p64 (take (length l.yielded) (by_element (mul_mod p64) l.xs l.weights)))
