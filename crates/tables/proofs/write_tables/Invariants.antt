-- `tables::write_tables` meets its contract. Assumes nothing.
use mathlib.Core.Path.{◌≡◌}
use lib.ListN.{length}
use Rattle.field64.specs.Field.{p64}
use Rattle.tables.specs.Tables.{Tables}
use Rattle.tables.proofs.write_tables.Given as goal

abbrev pub invariant-loop-i : goal.invariant-loop-i
invariant-loop-i l = (length l.tables ≡ length l.initial.tables) × Tables p64 l.i l.xs l.tables
