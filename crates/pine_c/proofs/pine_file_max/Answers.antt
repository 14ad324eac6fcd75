-- `pine_c::pine_file_max` meets its contract. Assumes nothing.
use mathlib.Core.Path.{ap, ◌∙◌}
use Rattle.pine.specs.declared.PineParam.{PineParam}
use Rattle.day_file.specs.Calls.{max_of}
use Rattle.pine_c.proofs.pine_file_max.Goals as goal

pub returns : goal.returns
returns c =
    c.file_max.ensures ∙ ap (λ (i : PineParam). max_of i c.args.reports) c.param_of.ensures
