-- `day_file::check_read` meets its contract. Assumes nothing.
use Rattle.day_file.proofs.Verdicts.{dimension_limits, read_inputs, read_lens, read_file}
use Rattle.day_file.proofs.check_read.Goals as goal

pub returns-then-inputs-ne0 : goal.returns-then-inputs-ne0
returns-then-inputs-ne0 c =
    read_inputs c.args.param c.args.file.now c.args.contents c.args.bodies _ c.check_param-inputs.ensures c.if-inputs-ne0.true

pub check_units-bodies_len-requires : goal.check_units-bodies_len-requires
check_units-bodies_len-requires c = (dimension_limits c.args.param _ c.check_param-inputs.ensures c.if-inputs-ne0.false).0

pub returns-then-lens-ne0 : goal.returns-then-lens-ne0
returns-then-lens-ne0 c =
    read_lens c.args.param c.args.file.now c.args.contents c.args.bodies _ c.check_param-inputs.ensures c.if-inputs-ne0.false _ c.count_of-count.ensures.0 _ _ _ c.check_units-contents_len.ensures c.check_units-bodies_len.ensures c.or-lens.ensures c.if-lens-ne0.true

pub check_file-requires : goal.check_file-requires
check_file-requires c = (dimension_limits c.args.param _ c.check_param-inputs.ensures c.if-inputs-ne0.false).1

pub returns : goal.returns
returns c =
    read_file c.args.param c.args.file.now c.args.contents c.args.bodies _ c.check_param-inputs.ensures c.if-inputs-ne0.false _ c.count_of-count.ensures.0 _ _ _ c.check_units-contents_len.ensures c.check_units-bodies_len.ensures c.or-lens.ensures c.if-lens-ne0.false _ c.check_file.ensures
