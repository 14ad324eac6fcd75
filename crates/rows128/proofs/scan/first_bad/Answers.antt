-- `rows128::scan::first_bad` meets its contract. Assumes nothing.
use Rattle.std.proofs.Common.{sym, ◌∙◌}
use Rattle.rows.proofs.Elements.{none_bad}
use Rattle.field128.specs.Field128.{p128, elements_of}
use Rattle.field128.proofs.Pairs.{elements_length}
use Rattle.rows128.proofs.scan.first_bad.Goals as goal

pub returns-then-carries : goal.returns-then-carries
returns-then-carries c =
    let row = c.args.row.now in
    sym (none_bad p128 (elements_of row) (c.carries.ensures.below c.if-carries.true) ∙ elements_length row)
