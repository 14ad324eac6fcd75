-- `load_draws::fill_stream` meets its contract. Assumes nothing.
use mathlib.Core.Path.{◌≡◌}
use mathlib.Core.List.{map}
use lib.ListN.{length}
use Rattle.rows.proofs.Walk.{Walking}
use Rattle.load_draws.specs.Draws.{states, stream_byte, after}
use Rattle.load_draws.proofs.fill_stream.Given as goal

-- the row has the first i draws, and s is the state that the last of them used
abbrev pub invariant-loop-byte : goal.invariant-loop-byte
invariant-loop-byte l = Walking (map stream_byte (states (length l.initial.row) l.state)) l.initial.row l.row l.byte-index × (l.s ≡ after l.byte-index l.state)
