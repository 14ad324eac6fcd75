-- `params128::derive` meets its contract. Assumes nothing.
use mathlib.Core.Path.{ap, ◌∙◌}
use Rattle.rules.specs.declared.Answer.{Answer}
use Rattle.pine.specs.Record.{derived_beside, derive_of}
use Rattle.params128.proofs.derive.Goals as goal

pub returns : goal.returns
unfolding derive_of
returns c = c.derive_beside.ensures ∙ ap (λ (a : Answer). derived_beside a c.args.param) c.check_param.ensures
