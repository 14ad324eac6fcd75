-- `pine_c::wide::pine128_valid` meets its contract. Assumes nothing.
use mathlib.Core.Path.{ap, ◌∙◌}
use Rattle.pine.specs.declared.PineParam.{PineParam}
use Rattle.pine.specs.Record.{gadget_calls_of}
use Rattle.flp.specs.Circuits.{valid_of}
use Rattle.params128.specs.Field128.{Field128}
use Rattle.pine_c.proofs.wide.pine128_valid.Goals as goal

pub returns : goal.returns
returns c =
    let e = c.param_of.ensures in
    record {
      result_value = c.valid.ensures.result_value ∙ ap (λ (i : PineParam). valid_of Field128 i c.args.num_shares c.args.full.now c.args.joint_rand.now) e;
      gadget_calls_value = λ z. c.valid.ensures.gadget_calls_value z ∙ ap (λ (i : PineParam). gadget_calls_of i) e;
    }
