-- `pine_c::pine_check_param` meets its contract. Assumes nothing.
use mathlib.Core.Path.{ap, ◌∙◌}
use Rattle.pine.specs.declared.PineParam.{PineParam}
use Rattle.pine.specs.Param.{Field64, param_answer}
use Rattle.pine_c.proofs.pine_check_param.Goals as goal

pub returns : goal.returns
returns c = c.check_param.ensures ∙ ap (λ (i : PineParam). param_answer Field64 i) c.param_of.ensures
