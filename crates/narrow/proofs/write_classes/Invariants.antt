-- `narrow::write_classes` meets its contract. Assumes nothing.
use Rattle.std.proofs.Common.{map}
use Rattle.rows.proofs.Walk.{Walking}
use Rattle.field128.specs.Field128.{elements_of}
use Rattle.narrow.specs.Narrow.{class_of}
use Rattle.narrow.proofs.write_classes.Given as goal

-- the invariant: the row has where the results lie up to t, and is as it was from there
abbrev pub invariant-loop-t : goal.invariant-loop-t
invariant-loop-t l = Walking (map (class_of l.bound) (elements_of l.results)) l.initial.row l.row l.t
