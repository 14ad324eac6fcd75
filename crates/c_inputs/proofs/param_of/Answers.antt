-- `c_inputs::param_of` meets its contract. Assumes nothing.
use Rattle.c_inputs.proofs.param_of.Goals as goal

pub returns : goal.returns
returns c = simp (c.switch_of.ensures, c.rule_of-wr_test_rule.ensures)
