-- `load_draws::fill_gradient` meets its contract. Assumes nothing.
use mathlib.Core.Path.{◌≡◌, refl, sym, ap, ◌∙◌}
use mathlib.Core.List.{map}
use native.Mathlib.Omega.{arith}
use lib.ListN.{length}
use Rattle.rows.proofs.Walk.{walking_next, walked_end}
use Rattle.load_draws.specs.Draws.{states, coordinate, step, after}
use Rattle.load_draws.proofs.Drawn.{after_next, length_drawn, drawn_at}
use Rattle.load_draws.proofs.fill_gradient.Goals as goal

pub loop-place-init : goal.loop-place-init
unfolding after
loop-place-init c = ((omega arith, refl, refl), refl)

pub loop-place-preserved : goal.loop-place-preserved
loop-place-preserved c =
    let d = c.args.row.now in
    let e = c.step-x.ensures in (
      walking_next (coordinate 0) (map coordinate (states (length d) c.args.seed)) d c.loop-place.row c.loop-place.place-index c.coordinate.result (length_drawn coordinate (length d) c.args.seed) c.loop-place.invariant.0 (omega arith)
          (c.coordinate.ensures ∙ ap coordinate e ∙ drawn_at coordinate (length d) c.args.seed c.loop-place.place-index c.loop-place.x (omega arith) c.loop-place.invariant.1),
      e ∙ ap step c.loop-place.invariant.1 ∙ sym (after_next c.loop-place.place-index c.args.seed),
    )

pub returns : goal.returns
returns c =
    let z : c.loop-place.place-index ≡ length c.args.row.now = omega arith in
    (c.loop-place.invariant.0.2 ∙ walked_end _ _ c.loop-place.place-index (length_drawn coordinate (length c.args.row.now) c.args.seed) (sym z), c.loop-place.invariant.1 ∙ ap (λ n. after n c.args.seed) z)
