-- `pine_c::pine_cut` meets its contract. Assumes nothing.
use mathlib.Core.Path.{ap, ◌∙◌}
use Rattle.pine.specs.declared.PineParam.{PineParam}
use Rattle.pine.specs.Param.{Field64}
use Rattle.cut.specs.Cut.{cut_of}
use Rattle.pine_c.proofs.pine_cut.Goals as goal

pub returns-then-leader-helper : goal.returns-then-leader-helper
returns-then-leader-helper c =
    c.cut.ensures ∙ ap (λ (i : PineParam). cut_of Field64 i c.args.gradient.now c.args.nonce.now c.args.seeds.now c.args.leader.now c.args.helper.now c.args.given.now) c.param_of-param.ensures

pub returns : goal.returns
returns c =
    c.cut-answer.ensures ∙ ap (λ (i : PineParam). cut_of Field64 i c.args.gradient.now c.args.nonce.now c.args.seeds.now c.args.leader.now c.args.helper.now c.args.given.now) c.param_of-param.ensures
