-- `pine_c::pine_run_wr_tests` meets its contract. Assumes nothing.
use mathlib.Core.Path.{ap, ◌∙◌}
use Rattle.pine.specs.declared.PineParam.{PineParam}
use Rattle.pine.specs.Param.{Field64}
use Rattle.flp.specs.Tests.{run_tests_of}
use Rattle.pine_c.proofs.pine_run_wr_tests.Goals as goal

pub returns : goal.returns
returns c =
    c.run_wr_tests-answer.ensures ∙ ap (λ (i : PineParam). run_tests_of Field64 i c.args.gradient.now c.args.stream.now c.args.results.now) c.param_of.ensures
