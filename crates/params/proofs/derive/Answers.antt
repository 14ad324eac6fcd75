-- `params::derive` meets its contract. Assumes nothing.
use lib.Dec.{lit≤}
use mathlib.Core.Path.{ap, ◌∙◌}
use Rattle.rules.specs.declared.Answer.{Answer}
use Rattle.pine.specs.Param.{Field64}
use Rattle.pine.specs.Record.{derived_beside, derive_of}
use Rattle.params.proofs.derive.Goals as goal

pub derive_beside-requires : goal.derive_beside-requires
derive_beside-requires c = record { F = Field64; narrow = lit≤ tt; is = c.check_param.ensures }

pub returns : goal.returns
unfolding derive_of
returns c = c.derive_beside.ensures ∙ ap (λ (a : Answer). derived_beside a c.args.param) c.check_param.ensures
