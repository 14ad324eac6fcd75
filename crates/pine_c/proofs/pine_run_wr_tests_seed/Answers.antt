-- `pine_c::pine_run_wr_tests_seed` meets its contract. Assumes nothing.
use mathlib.Core.Path.{ap, ◌∙◌}
use Rattle.pine.specs.declared.PineParam.{PineParam}
use Rattle.pine.specs.Param.{Field64}
use Rattle.pine.specs.Record.{stream_len_of}
use Rattle.flp.specs.Tests.{run_tests_of}
use Rattle.wr_joint_rand.specs.WrJointRand.{wr_stream}
use Rattle.pine_c.proofs.pine_run_wr_tests_seed.Goals as goal

pub returns-then-results-eq0 : goal.returns-then-results-eq0
returns-then-results-eq0 c =
    c.run_wr_tests_seed.ensures ∙ ap (λ (i : PineParam). run_tests_of Field64 i c.args.gradient.now (wr_stream (stream_len_of i.num_wr_tests i.dimension) c.args.seed.now) c.args.results.now) c.param_of-param.ensures

pub returns : goal.returns
returns c =
    c.run_wr_tests_seed-answer.ensures ∙ ap (λ (i : PineParam). run_tests_of Field64 i c.args.gradient.now (wr_stream (stream_len_of i.num_wr_tests i.dimension) c.args.seed.now) c.args.results.now) c.param_of-param.ensures
