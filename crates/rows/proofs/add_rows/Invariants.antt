-- `rows::add_rows` meets its contract. Assumes nothing.
use Rattle.std.proofs.Common.{◌-◌, length}
use Rattle.field64.specs.Field.{p64, add_mod}
use Rattle.rows.proofs.Joining.{Joining}
use Rattle.rows.proofs.add_rows.Given as goal

-- the invariant: the row is the sums up to i, and as it was from there
abbrev pub invariant-loop-i : goal.invariant-loop-i
invariant-loop-i l = Joining (add_mod p64) l.initial.agg l.share l.agg l.i
