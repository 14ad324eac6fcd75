-- `load_draws::coordinate` meets its contract. Assumes nothing.
use lib.Ieee.{of_bits}
use Rattle.load_draws.proofs.Drawn.{coordinate_below, coordinate_above}
use Rattle.load_draws.proofs.coordinate.Goals as goal

pub returns-then-low-lt32768 : goal.returns-then-low-lt32768
unfolding of_bits
returns-then-low-lt32768 c = coordinate_below _ c.if-low-lt32768.true

pub returns-else-low-lt32768 : goal.returns-else-low-lt32768
unfolding of_bits
returns-else-low-lt32768 c = coordinate_above _ c.if-low-lt32768.false
