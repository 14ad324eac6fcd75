-- `load_draws::fill_stream` meets its contract. Assumes nothing.
use mathlib.Core.Path.{refl, sym, ap, ◌∙◌}
use mathlib.Core.List.{map}
use native.Mathlib.Omega.{arith}
use lib.ListN.{length}
use Rattle.rows.proofs.Walk.{walking_next, walked_end}
use Rattle.load_draws.specs.Draws.{states, stream_byte, step, after}
use Rattle.load_draws.proofs.Drawn.{after_next, length_drawn, drawn_at}
use Rattle.load_draws.proofs.fill_stream.Goals as goal

pub loop-byte-init : goal.loop-byte-init
unfolding after
loop-byte-init c = ((omega arith, refl, refl), refl)

pub loop-byte-preserved : goal.loop-byte-preserved
loop-byte-preserved c =
    let d = c.args.row.now in
    let e = c.step-s.ensures in (
      walking_next 0 (map stream_byte (states (length d) c.args.state)) d c.loop-byte.row c.loop-byte.byte-index (stream_byte c.step-s.result) (length_drawn stream_byte (length d) c.args.state) c.loop-byte.invariant.0 (omega arith)
          (ap stream_byte e ∙ drawn_at stream_byte (length d) c.args.state c.loop-byte.byte-index c.loop-byte.s (omega arith) c.loop-byte.invariant.1),
      e ∙ ap step c.loop-byte.invariant.1 ∙ sym (after_next c.loop-byte.byte-index c.args.state),
    )

pub returns : goal.returns
returns c =
    c.loop-byte.invariant.0.2 ∙ walked_end _ _ c.loop-byte.byte-index (length_drawn stream_byte (length c.args.row.now) c.args.state) (omega arith)
