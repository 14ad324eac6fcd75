-- `file_add::check_add` meets its contract. Assumes nothing.
use native.Mathlib.Omega.{arith}
use Rattle.rows.proofs.Elements.{below_all}
use Rattle.file_add.proofs.Verdicts.{add_inputs, add_lens, add_file, add_report}
use Rattle.day_file.proofs.Verdicts.{dimension_limits}
use Rattle.file_add.proofs.check_add.Goals as goal

pub returns-then-inputs-ne0 : goal.returns-then-inputs-ne0
returns-then-inputs-ne0 c =
    add_inputs c.args.param c.args.key.now c.args.old.now c.args.share.now c.args.second _ c.check_param-inputs.ensures c.if-inputs-ne0.true

pub check_lens-lens-requires : goal.check_lens-lens-requires
check_lens-lens-requires c = ((dimension_limits c.args.param _ c.check_param-inputs.ensures c.if-inputs-ne0.false).1, omega arith)

pub returns-then-lens-ne0 : goal.returns-then-lens-ne0
returns-then-lens-ne0 c =
    add_lens c.args.param c.args.key.now c.args.old.now c.args.share.now c.args.second _ c.check_param-inputs.ensures c.if-inputs-ne0.false _ c.check_lens-lens.ensures c.if-lens-ne0.true

pub check_file-file-requires : goal.check_file-file-requires
check_file-file-requires c = (dimension_limits c.args.param _ c.check_param-inputs.ensures c.if-inputs-ne0.false).1

pub returns-then-file-ne0 : goal.returns-then-file-ne0
returns-then-file-ne0 c =
    add_file c.args.param c.args.key.now c.args.old.now c.args.share.now c.args.second _ c.check_param-inputs.ensures c.if-inputs-ne0.false _ c.check_lens-lens.ensures c.if-lens-ne0.false _ c.check_file-file.ensures c.if-file-ne0.true

pub returns : goal.returns
returns c =
    add_report c.args.param c.args.key.now c.args.old.now c.args.share.now c.args.second _ c.check_param-inputs.ensures c.if-inputs-ne0.false _ c.check_lens-lens.ensures c.if-lens-ne0.false _ c.check_file-file.ensures c.if-file-ne0.false (below_all 256 c.args.old.now (λ j _. (c.shared_slice_known-2-1.given j).fits)) c.requires (below_all 256 c.args.key.now (λ j _. (c.shared_slice_known-1.given j).fits)) _ c.check_report.ensures
