-- What the pairs of a test make of its elements, summed up one after the other. No public contract cites these. Assumes nothing.
use Rattle.std.specs.Prelude.{◌≡◌, ℕ, ◌+◌, ◌%◌, ◌≤◌, List, get_or, take}
use Rattle.field64.specs.Field.{p64}
use Rattle.field64.specs.Sums.{total}
use Rattle.sums.specs.declared.Total.{Total}
use Rattle.sums.specs.Unreduced.{total_of}
use Rattle.flp.specs.Tests.{pairs, weighed, weigh}

-- r is the sum with element k, as this pair has it
abbrev pub PlusPair : (xs : List ℕ) (k pair : ℕ) (sum r : Total) → Type 0
PlusPair xs k pair sum r = (total_of r % p64 ≡ (total_of sum + weighed p64 pair (get_or xs k 0)) % p64) × (r.high ≤ sum.high + 1)

-- the sum is that of the first k elements, as their pairs have them
abbrev pub Summed : (xs bytes : List ℕ) (k : ℕ) (sum : Total) → Type 0
Summed xs bytes k sum = (sum.high ≤ k) × (total_of sum % p64 ≡ total p64 (take k (weigh p64 (pairs bytes) xs)))
