-- `rows::scan::first_bad` meets its contract. Assumes nothing.
use Rattle.std.proofs.Common.{sym}
use Rattle.field64.specs.Field.{p64}
use Rattle.rows.proofs.Elements.{none_bad}
use Rattle.rows.proofs.scan.first_bad.Goals as goal

pub returns-then-carries : goal.returns-then-carries
returns-then-carries c =
    let row = c.args.row.now in
    sym (none_bad p64 row (c.carries.ensures.below c.if-carries.true))
