-- `pine_c::pine_file_add` meets its contract. Assumes nothing.
use mathlib.Core.Path.{ap, ◌∙◌}
use Rattle.pine.specs.declared.PineParam.{PineParam}
use Rattle.file_add.specs.Add.{add_of}
use Rattle.pine_c.proofs.pine_file_add.Goals as goal

pub returns : goal.returns
returns c =
    c.file_add.ensures ∙ ap (λ (i : PineParam). add_of i c.args.key.bytes c.args.old.now c.args.share.now c.args.second.now) c.param_of.ensures
