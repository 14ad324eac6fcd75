-- `tiles::run_tiles` meets its contract: after the bytes before j, the norm and each result are over the first 4j coordinates, and each state is j bytes on. Assumes nothing.
use mathlib.Core.Path.{◌≡◌}
use Prim.Native.Nat.{◌+◌, ◌-◌, ◌*◌, ◌≤◌}
use lib.ListN.{length, take}
use Rattle.field64.specs.Field.{p64}
use Rattle.sums.specs.Unreduced.{words_of}
use Rattle.flp.specs.Tests.{tests_of}
use Rattle.flp.specs.Encode.{elements, true_sq_norm_of}
use Rattle.stream_states.specs.States.{states_of, tile_of, all_after}
use Rattle.tiles.proofs.run_tiles.Given as goal

abbrev pub invariant-loop-j : goal.invariant-loop-j
invariant-loop-j l = (l.j ≤ l.per) × (length l.states ≡ length l.initial.states) × (length l.buffer ≡ length l.initial.buffer) × (length l.row ≡ length l.initial.row) × (length l.spare ≡ length l.initial.spare) × (length l.results ≡ length l.initial.results) × (l.results ≡ tests_of p64 l.per l.count (tile_of l.per (states_of l.count l.initial.states)) (take (4 * l.j) (elements p64 l.frac_bits l.gradient))) × (states_of l.count l.states ≡ all_after l.j (states_of l.count l.initial.states)) × ((l.norm.top ≤ l.initial.norm.top + 4 * l.j) × (words_of l.norm ≡ words_of l.initial.norm + true_sq_norm_of l.frac_bits (take (4 * l.j) l.gradient)))

abbrev pub decreases-loop-j : goal.decreases-loop-j
decreases-loop-j l = l.per - l.j
