-- `pine_c::wide::pine128_derive` meets its contract. Assumes nothing.
use mathlib.Core.Path.{ap, ◌∙◌}
use Rattle.pine.specs.declared.PineParam.{PineParam}
use Rattle.pine.specs.Record.{derive_of}
use Rattle.params128.specs.Field128.{Field128}
use Rattle.pine_c.proofs.wide.pine128_derive.Goals as goal

pub returns : goal.returns
returns c = c.derive.ensures ∙ ap (λ (i : PineParam). derive_of Field128 i) c.param_of.ensures
