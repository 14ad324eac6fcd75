-- `pine_c::pine_file_read` meets its contract. Assumes nothing.
use mathlib.Core.Path.{ap, ◌∙◌}
use Rattle.pine.specs.declared.PineParam.{PineParam}
use Rattle.day_file.specs.Calls.{read_of}
use Rattle.pine_c.proofs.pine_file_read.Goals as goal

pub returns : goal.returns
returns c =
    c.file_read.ensures ∙ ap (λ (i : PineParam). read_of i c.args.file.now c.args.contents.now c.args.bodies.now) c.param_of.ensures
