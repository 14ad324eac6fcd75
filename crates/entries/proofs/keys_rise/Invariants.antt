-- `entries::keys_rise` meets its contract. Assumes nothing.
use mathlib.Core.Path.{◌≡◌}
use lib.ListN.{drop}
use Rattle.entries.specs.File.{keys_in, rising, rising_after}
use Rattle.entries.proofs.keys_rise.Given as goal

abbrev pub invariant-loop-i : goal.invariant-loop-i
invariant-loop-i l = rising (keys_in l.count l.contents) ≡ rising_after l.last (drop l.i (keys_in l.count l.contents))
