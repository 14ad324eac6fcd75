-- `params128::check_param` meets its contract. Assumes nothing.
use Rattle.pine.specs.Param.{param_rules, param_answer}
use Rattle.params128.proofs.check_param.Goals as goal

pub returns : goal.returns
unfolding param_answer param_rules
returns c = c.check_param_within.ensures
