-- `stream_states::load` meets its contract. The invariant: the first i words are copied. Assumes nothing.
use mathlib.Core.Path.{◌≡◌}
use lib.ListN.{length, take}
use Rattle.stream_states.proofs.load.Given as goal

abbrev pub invariant-loop-i : goal.invariant-loop-i
invariant-loop-i l = (length l.lanes ≡ 25) × (take l.i l.lanes ≡ take l.i l.words)
