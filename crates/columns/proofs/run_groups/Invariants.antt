-- `columns::run_groups` meets its contract: after the bytes before j, each result is over the first 4j coordinates. Assumes nothing.
use mathlib.Core.Path.{◌≡◌}
use Prim.Native.Nat.{◌-◌, ◌*◌, ◌≤◌}
use lib.ListN.{length, take}
use Rattle.field64.specs.Field.{p64}
use Rattle.flp.specs.Tests.{tests_of}
use Rattle.columns.proofs.run_groups.Given as goal

abbrev pub invariant-loop-j : goal.invariant-loop-j
invariant-loop-j l = (l.j ≤ l.per) × (length l.spare ≡ length l.initial.spare) × (length l.results ≡ length l.initial.results) × (l.results ≡ tests_of p64 l.per (length l.initial.results) l.stream (take (4 * l.j) l.gradient))

abbrev pub decreases-loop-j : goal.decreases-loop-j
decreases-loop-j l = l.per - l.j
