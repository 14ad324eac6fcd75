-- `pine_c::wide::pine128_check_param` meets its contract. Assumes nothing.
use mathlib.Core.Path.{ap, ◌∙◌}
use Rattle.pine.specs.declared.PineParam.{PineParam}
use Rattle.pine.specs.Param.{param_answer}
use Rattle.params128.specs.Field128.{Field128}
use Rattle.pine_c.proofs.wide.pine128_check_param.Goals as goal

pub returns : goal.returns
returns c = c.check_param.ensures ∙ ap (λ (i : PineParam). param_answer Field128 i) c.param_of.ensures
