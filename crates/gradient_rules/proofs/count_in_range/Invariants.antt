-- `gradient_rules::count_in_range` meets its contract. The invariant: those counted, and those in the rest. Assumes nothing.
use mathlib.Core.Path.{◌≡◌}
use Prim.Native.Nat.{◌+◌, ◌≤◌}
use lib.ListN.{drop}
use Rattle.field64.specs.Field.{p64}
use Rattle.flp.specs.Encode.{count_in_range}
use Rattle.gradient_rules.proofs.count_in_range.Given as goal

abbrev pub invariant-loop-r : goal.invariant-loop-r
invariant-loop-r l = (l.count ≤ l.r-index) × (count_in_range p64 l.bound l.results ≡ l.count + count_in_range p64 l.bound (drop l.r-index l.results))
