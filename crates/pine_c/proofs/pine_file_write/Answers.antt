-- `pine_c::pine_file_write` meets its contract. Assumes nothing.
use mathlib.Core.Path.{ap, ◌∙◌}
use Rattle.pine.specs.declared.PineParam.{PineParam}
use Rattle.day_file.specs.Calls.{write_of}
use Rattle.pine_c.proofs.pine_file_write.Goals as goal

pub returns : goal.returns
returns c =
    c.file_write.ensures ∙ ap (λ (i : PineParam). write_of i c.args.count c.args.contents.now c.args.bodies.now c.args.file.now) c.param_of.ensures
