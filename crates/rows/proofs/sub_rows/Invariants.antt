-- `rows::sub_rows` meets its contract. Assumes nothing.
use Rattle.std.proofs.Common.{◌-◌, length}
use Rattle.field64.specs.Field.{p64, sub_mod}
use Rattle.rows.proofs.Joining.{Joining}
use Rattle.rows.proofs.sub_rows.Given as goal

-- the invariant: the row is the differences up to i, and as it was from there
abbrev pub invariant-loop-i : goal.invariant-loop-i
invariant-loop-i l = Joining (sub_mod p64) l.initial.agg l.share l.agg l.i
