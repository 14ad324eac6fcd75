-- `stream_states::draw_tile` meets its contract. Assumes nothing.
use Rattle.stream_states.proofs.States.{Tiled}
use Rattle.stream_states.proofs.draw_tile.Given as goal

abbrev pub invariant-loop-t : goal.invariant-loop-t
invariant-loop-t l = Tiled l.n l.initial.states l.t l.states l.buffer
