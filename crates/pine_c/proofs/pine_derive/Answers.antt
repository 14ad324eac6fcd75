-- `pine_c::pine_derive` meets its contract. Assumes nothing.
use mathlib.Core.Path.{ap, ◌∙◌}
use Rattle.pine.specs.declared.PineParam.{PineParam}
use Rattle.pine.specs.Param.{Field64}
use Rattle.pine.specs.Record.{derive_of}
use Rattle.pine_c.proofs.pine_derive.Goals as goal

pub returns : goal.returns
returns c = c.derive.ensures ∙ ap (λ (i : PineParam). derive_of Field64 i) c.param_of.ensures
