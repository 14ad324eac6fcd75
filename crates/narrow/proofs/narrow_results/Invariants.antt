-- `narrow::narrow_results` meets its contract. Assumes nothing.
use Rattle.std.proofs.Common.{◌≡◌, map, length}
use Rattle.rows.proofs.Walk.{Walking}
use Rattle.field128.specs.Field128.{elements_of}
use Rattle.narrow.specs.Narrow.{class_of, narrowed}
use Rattle.narrow.proofs.narrow_results.Given as goal

-- the invariant: the row has the results narrowed up to t, and from there where they lie
abbrev pub invariant-loop-t : goal.invariant-loop-t
invariant-loop-t l = (length l.row ≡ length l.initial.row) × Walking (map (narrowed l.bound) (elements_of l.results)) (map (class_of l.bound) (elements_of l.results)) l.row l.t
