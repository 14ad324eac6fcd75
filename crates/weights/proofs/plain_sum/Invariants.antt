-- `weights::plain_sum` meets its contract. Assumes nothing.
use mathlib.Core.Path.{◌≡◌}
use Prim.Native.Nat.{◌*◌, ◌%◌, ◌^◌, ◌≤◌}
use lib.ListN.{take}
use Rattle.field64.specs.Field.{p64}
use Rattle.field64.specs.Sums.{total}
use Rattle.sums.specs.Unreduced.{halves_of}
use Rattle.weights.proofs.plain_sum.Given as goal

abbrev pub invariant-loop-x : goal.invariant-loop-x
invariant-loop-x l = ((l.sum.high ≤ l.x-index * 2 ^ 33) × (l.sum.low ≤ l.x-index * 2 ^ 33)) × (halves_of l.sum % p64 ≡ total p64 (take l.x-index l.xs))
