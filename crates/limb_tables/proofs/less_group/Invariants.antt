-- `limb_tables::less_group` meets its contract: rows whose elements are replaced from the front. Assumes nothing.
use Rattle.std.proofs.Common.{◌^◌, drop}
use Rattle.rows.proofs.Walk.{Walking}
use Rattle.tables.specs.Tables.{less_group}
use Rattle.limb_tables.proofs.less_group.Given as goal

abbrev pub invariant-loop-t : goal.invariant-loop-t
invariant-loop-t l = Walking (less_group (2 ^ 64) (drop 0 l.tables) l.per l.j l.n l.stream l.initial.low) l.initial.low l.low l.t × (Walking (less_group (2 ^ 64) (drop 256 l.tables) l.per l.j l.n l.stream l.initial.middle) l.initial.middle l.middle l.t × Walking (less_group (2 ^ 64) (drop 512 l.tables) l.per l.j l.n l.stream l.initial.high) l.initial.high l.high l.t)
