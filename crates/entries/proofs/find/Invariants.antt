-- `entries::find` meets its contract. Assumes nothing.
use Prim.Native.Nat.{◌-◌, ◌≤◌}
use Rattle.entries.specs.File.{keys_in}
use Rattle.entries.proofs.Searching.{Between}
use Rattle.entries.proofs.find.Given as goal

abbrev pub invariant-loop-low : goal.invariant-loop-low
invariant-loop-low l = (l.high ≤ l.count) × Between l.key (keys_in l.count l.contents) l.low l.high

abbrev pub decreases-loop-low : goal.decreases-loop-low
decreases-loop-low l = l.high - l.low
