-- `doubles::usable` meets its contract. Assumes nothing.
use Rattle.std.proofs.Common.{sym, ap, ◌∙◌}
use lib.Ieee.{of_bits}
use Rattle.doubles.specs.Steps.{normal_size}
use Rattle.doubles.proofs.Accept.{usable_normal, usable_other}
use Rattle.doubles.proofs.usable.Goals as goal

pub returns-then-normal_size : goal.returns-then-normal_size
returns-then-normal_size c =
    usable_normal c.args.x (ap normal_size (sym c.size.ensures) ∙ sym c.normal_size.ensures ∙ c.if-normal_size.true)

pub returns : goal.returns
unfolding of_bits
returns c =
    usable_other c.args.x (ap normal_size (sym c.size.ensures) ∙ sym c.normal_size.ensures ∙ c.if-normal_size.false)
