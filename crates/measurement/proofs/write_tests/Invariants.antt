-- `measurement::write_tests` meets its contract: after t turns the row holds the bits of t tests, and is as it was from there. Assumes nothing.
use mathlib.Core.Path.{◌≡◌}
use mathlib.Core.List.{◌++◌}
use Prim.Native.Nat.{◌+◌, ◌*◌}
use lib.ListN.{length, take, drop}
use Rattle.field64.specs.Field.{p64}
use Rattle.flp.specs.Encode.{test_bits}
use Rattle.measurement.proofs.Written.{left_after}
use Rattle.measurement.proofs.write_tests.Given as goal

abbrev pub invariant-loop-r : goal.invariant-loop-r
invariant-loop-r l = (l.start ≡ (1 + l.w) * l.r-index) × (length l.row ≡ length l.initial.row) × (l.row ≡ test_bits p64 l.w l.bound l.successes (take l.r-index l.results) ++ drop l.start l.initial.row) × (l.left ≡ left_after p64 l.bound l.successes (take l.r-index l.results))
