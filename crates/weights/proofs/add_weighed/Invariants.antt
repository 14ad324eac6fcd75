-- `weights::add_weighed` meets its contract: a row whose elements are replaced from the front. Assumes nothing.
use mathlib.Core.Path.{◌≡◌}
use lib.ListN.{length}
use Rattle.field64.specs.Field.{p64}
use Rattle.rows.proofs.Walk.{Walking}
use Rattle.groups.specs.Groups.{add_group}
use Rattle.weights.proofs.add_weighed.Given as goal

abbrev pub invariant-loop-t : goal.invariant-loop-t
invariant-loop-t l = (length l.weights ≡ length l.initial.weights) × Walking (add_group p64 l.per l.j l.n l.xs l.stream l.initial.results) l.initial.results l.results l.t
