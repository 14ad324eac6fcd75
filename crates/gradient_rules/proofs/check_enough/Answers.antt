-- `gradient_rules::check_enough` meets its contract. Assumes nothing.
use mathlib.Core.Path.{◌∙◌}
use Rattle.flp.specs.Encode.{enough_rule}
use Rattle.gradient_rules.proofs.check_enough.Goals as goal

pub returns : goal.returns
unfolding enough_rule
returns c = c.refuse_if.ensures ∙ rw c.count_in_range-count.ensures
