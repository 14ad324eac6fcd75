-- `layout::check_units` meets its contract. Assumes nothing.
use mathlib.Core.Path.{◌∙◌}
use Rattle.layout.proofs.Tests.{units_whole, units_other}
use Rattle.layout.proofs.check_units.Goals as goal
use Rattle.layout.proofs.check_units.Goals.{then-len-unit, else-len-unit}

pub returns : goal.returns
returns c =
    c.refuse_if.ensures
    ∙ elim c.if-len-unit.branch [
      | then-len-unit w ↦ rw w.whole-is (units_whole c.args.place c.args.len c.args.unit c.args.count c.requires w.if-len-unit.true)
      | else-len-unit w ↦ rw w.whole-is (units_other c.args.place c.args.len c.args.unit c.args.count c.requires w.if-len-unit.false)
    ]
