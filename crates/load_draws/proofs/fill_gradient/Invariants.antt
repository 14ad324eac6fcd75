-- `load_draws::fill_gradient` meets its contract. Assumes nothing.
use mathlib.Core.Path.{◌≡◌}
use mathlib.Core.List.{map}
use lib.ListN.{length}
use Rattle.rows.proofs.Walk.{Walking}
use Rattle.load_draws.specs.Draws.{states, coordinate, after}
use Rattle.load_draws.proofs.fill_gradient.Given as goal

-- the row has the first i draws, and x is the state that the last of them used
abbrev pub invariant-loop-place : goal.invariant-loop-place
invariant-loop-place l = Walking (map coordinate (states (length l.initial.row) l.seed)) l.initial.row l.row l.place-index × (l.x ≡ after l.place-index l.seed)
