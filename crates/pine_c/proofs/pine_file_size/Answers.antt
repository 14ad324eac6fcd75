-- `pine_c::pine_file_size` meets its contract. Assumes nothing.
use mathlib.Core.Path.{ap, ◌∙◌}
use Rattle.pine.specs.declared.PineParam.{PineParam}
use Rattle.file_size.specs.Size.{size_of}
use Rattle.pine_c.proofs.pine_file_size.Goals as goal

pub returns : goal.returns
returns c =
    c.file_size.ensures ∙ ap (λ (i : PineParam). size_of i c.args.keys.now) c.param_of.ensures
