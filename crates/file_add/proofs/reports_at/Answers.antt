-- `file_add::reports_at` meets its contract. Assumes nothing.
use Rattle.file_add.proofs.Places.{reports_four}
use Rattle.file_add.proofs.reports_at.Goals as goal

pub returns : goal.returns
returns c =
    (reports_four c.args.contents.now c.args.i _ c.requires c.number4.ensures.0, c.number4.ensures.1)
