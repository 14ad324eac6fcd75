-- `load_draws::draw` meets its contract. Assumes nothing.
use mathlib.Core.Path.{ap, ◌∙◌}
use mathlib.Core.List.{map}
use Prim.Native.Nat.{ℕ}
use lib.ListN.{length}
use Rattle.load_draws.specs.Draws.{states, stream_byte}
use Rattle.load_draws.proofs.Drawn.{gradient_drawn, stream_drawn}
use Rattle.load_draws.proofs.draw.Goals as goal

pub returns : goal.returns
returns c =
    let n = length c.args.stream.now in (
      c.fill_gradient-state.ensures.0 ∙ gradient_drawn c.args.seed (length c.args.gradient.now) n,
      c.fill_stream.ensures ∙ ap (λ (x : ℕ). map stream_byte (states n x)) c.fill_gradient-state.ensures.1 ∙ stream_drawn c.args.seed (length c.args.gradient.now) n,
    )
