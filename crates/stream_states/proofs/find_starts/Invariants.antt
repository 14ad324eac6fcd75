-- `stream_states::find_starts` meets its contract. Assumes nothing.
use mathlib.Core.Path.{◌≡◌}
use Prim.Native.Nat.{◌*◌, ◌<◌}
use Rattle.turboshake.specs.Stream.{after}
use Rattle.stream_states.specs.States.{states_of, starts_of}
use Rattle.stream_states.proofs.find_starts.Given as goal

abbrev pub invariant-loop-t : goal.invariant-loop-t
invariant-loop-t l = (l.next.at < 168) × (states_of l.t l.states ≡ starts_of l.per l.t l.initial.next) × (l.next ≡ after (l.t * l.per) l.initial.next)
