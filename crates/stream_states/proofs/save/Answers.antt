-- `stream_states::save` meets its contract. The invariant: the first i words are copied. Assumes nothing.
use mathlib.Core.Path.{◌≡◌}
use native.Mathlib.Omega.{arith}
use borrow.Author.Rules.{rules}
use lib.ListN.{length}
use Rattle.stream_states.proofs.States.{saved}
use Rattle.stream_states.proofs.save.Goals as goal

pub returns : goal.returns
returns c =
    let l = c.loop-i in
    let long : length c.args.state.lanes ≡ 25 = search rules in
    saved l.i c.args.state l.words (omega arith) long (omega arith) l.invariant
