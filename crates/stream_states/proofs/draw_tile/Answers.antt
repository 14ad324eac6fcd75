-- `stream_states::draw_tile` meets its contract. Assumes nothing.
use mathlib.Core.Path.{◌∙◌}
use Prim.Native.Nat.{◌+◌, ◌-◌, ◌*◌, ◌≤◌}
use native.Mathlib.Omega.{arith}
use lib.ListN.{length}
use Rattle.stream_states.proofs.States.{tiled_next, next_ready, inside, as_many, piece_long}
use Rattle.stream_states.proofs.draw_tile.Goals as goal

pub draw_piece-requires : goal.draw_piece-requires
draw_piece-requires c =
    let l = c.loop-t in
    let at = l.t * 26 in
    (piece_long at 26 l.states (omega arith), next_ready c.args.n c.args.states.now l.t l.states l.buffer l.invariant (at + 26 - at) c.args.count (as_many at 26) c.loop-t-test.true c.requires.count_in_bounds.1)

pub loop-t-preserved : goal.loop-t-preserved
loop-t-preserved c =
    let l = c.loop-t in
    let d = c.draw_piece in
    let n = c.args.n in
    let at = l.t * 26 in
    let from = l.t * n in
    let piece_in : from + n ≤ length l.buffer = omega (arith, inside l.t c.args.count n (length c.args.buffer.now) c.loop-t-test.true c.requires.count_bound.1.1) in
    tiled_next n c.args.states.now l.t l.states l.buffer l.invariant (at + 26 - at) _ d.new.words d.new.piece _ (as_many at 26) (piece_long from n l.buffer piece_in) (omega arith) (d.auto.words ∙ piece_long at 26 l.states (omega arith)) piece_in d.ensures.piece_after d.ensures.words_after
