-- `doubles::small_flag` meets its contract. Assumes nothing.
use Rattle.std.proofs.Common.{false, negsuc, sym, ap, ◌∙◌, arith, lit≤}
use lib.Ieee.{Float, fin, lt, of_bits}
use Rattle.doubles.proofs.Accept.{zero_not_small, large_not_small}
use Rattle.doubles.proofs.small_flag.Goals as goal
use Rattle.doubles.proofs.small_flag.Goals.{then-x, else-x}

pub returns-then-size : goal.returns-then-size
unfolding of_bits
returns-then-size c =
    elim c.if-x.branch [
      | then-x w ↦ (omega (arith, w.nonzero-is), λ z. zero_not_small _ w.if-x.true)
      | else-x w ↦ (omega (arith, w.nonzero-is), λ z. absurd (omega (arith, w.nonzero-is)))
    ]

pub returns-else-size : goal.returns-else-size
unfolding of_bits
returns-else-size c =
    (lit≤ tt, λ z. large_not_small _ (ap (λ (y : Float). lt y (fin false 1 (negsuc 1021))) (sym c.size.ensures) ∙ c.if-size.false))
