-- `load_report::encode_drawn` meets its contract. Assumes nothing.
use mathlib.Core.Path.{◌∙◌}
use Rattle.pine.specs.Param.{Field64}
use Rattle.flp.specs.Encode.{encode_of}
use Rattle.load_report.proofs.encode_drawn.Goals as goal

pub returns : goal.returns
returns c =
    c.encode_with_wr_joint_rand.ensures ∙ (λ j. encode_of Field64 c.args.param (c.draw.ensures.0 j) (c.draw.ensures.1 j) c.args.measurement.now c.args.results.now)
