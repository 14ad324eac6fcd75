-- `day_file::check_write` meets its contract. Assumes nothing.
use mathlib.Core.Path.{refl}
use Rattle.day_file.proofs.Verdicts.{dimension_limits, write_inputs, write_lens, write_rows}
use Rattle.day_file.proofs.check_write.Goals as goal

pub returns-then-inputs-ne0 : goal.returns-then-inputs-ne0
returns-then-inputs-ne0 c =
    write_inputs c.args.param c.args.count c.args.contents.now c.args.bodies.now c.args.file _ c.check_param-inputs.ensures c.if-inputs-ne0.true

pub check_write_lens-lens-requires : goal.check_write_lens-lens-requires
check_write_lens-lens-requires c = dimension_limits c.args.param _ c.check_param-inputs.ensures c.if-inputs-ne0.false

pub returns-then-lens-ne0 : goal.returns-then-lens-ne0
returns-then-lens-ne0 c =
    write_lens c.args.param c.args.count c.args.contents.now c.args.bodies.now c.args.file _ c.check_param-inputs.ensures c.if-inputs-ne0.false _ _ _ _ refl refl refl c.check_write_lens-lens.ensures c.if-lens-ne0.true

pub returns : goal.returns
returns c =
    write_rows c.args.param c.args.count c.args.contents.now c.args.bodies.now c.args.file _ c.check_param-inputs.ensures c.if-inputs-ne0.false _ _ _ _ refl refl refl c.check_write_lens-lens.ensures c.if-lens-ne0.false _ c.check_rows.ensures
