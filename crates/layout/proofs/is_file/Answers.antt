-- `layout::is_file` meets its contract. Assumes nothing.
use mathlib.Core.Path.{sym, ◌∙◌}
use native.Mathlib.Omega.{arith}
use Rattle.field64.specs.Field.{p64}
use Rattle.layout.proofs.Tests.{dimension_four, file_short, file_other, file_size, file_rows, rows_in_parts}
use Rattle.layout.proofs.is_file.Goals as goal

pub returns-then-file-lt6 : goal.returns-then-file-lt6
returns-then-file-lt6 c = file_short p64 c.args.dimension c.args.file.now c.if-file-lt6.true

pub returns-then-written-dimension : goal.returns-then-written-dimension
returns-then-written-dimension c =
    file_other p64 c.args.dimension c.args.file.now (omega arith) _ (dimension_four c.args.file.now _ (omega arith) c.number4-written.ensures.0) c.if-written-dimension.true

pub returns-then-file-expected : goal.returns-then-file-expected
returns-then-file-expected c =
    file_size p64 c.args.dimension c.args.file.now (omega arith) (sym (dimension_four c.args.file.now _ (omega arith) c.number4-written.ensures.0) ∙ c.if-written-dimension.false) _ c.count_of-count.ensures.0 (λ e. c.if-file-expected.true (e ∙ sym c.file_len-expected.ensures))

pub returns : goal.returns
returns c =
    file_rows p64 c.args.dimension c.args.file.now (omega (arith, c.before.before.before.before.before.before.before.before.before.before.before.before)) (sym (dimension_four c.args.file.now _ (omega (arith, c.before.before.before.before.before.before.before.before.before.before.before.before)) c.number4-written.ensures.0) ∙ c.if-written-dimension.false) _ c.count_of-count.ensures.0 (c.if-file-expected.false ∙ c.file_len-expected.ensures) _ (rows_in_parts p64 c.args.dimension c.count_of-count.result c.args.file.now _ c.is_rows_in.ensures)
