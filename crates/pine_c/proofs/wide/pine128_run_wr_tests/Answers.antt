-- `pine_c::wide::pine128_run_wr_tests` meets its contract. Assumes nothing.
use mathlib.Core.Path.{ap, ◌∙◌}
use Rattle.pine.specs.declared.PineParam.{PineParam}
use Rattle.flp.specs.Tests.{run_tests_of}
use Rattle.params128.specs.Field128.{Field128}
use Rattle.pine_c.proofs.wide.pine128_run_wr_tests.Goals as goal

pub returns-then-results-eq0 : goal.returns-then-results-eq0
returns-then-results-eq0 c =
    c.run_wr_tests.ensures ∙ ap (λ (i : PineParam). run_tests_of Field128 i c.args.gradient.now c.args.stream.now c.args.results.now) c.param_of-param.ensures

pub returns : goal.returns
returns c =
    c.run_wr_tests-answer.ensures ∙ ap (λ (i : PineParam). run_tests_of Field128 i c.args.gradient.now c.args.stream.now c.args.results.now) c.param_of-param.ensures
