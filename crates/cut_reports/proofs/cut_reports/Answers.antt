-- `cut_reports::cut_reports` meets its contract. Assumes nothing.
use Rattle.cut_reports.proofs.Accepted.{cut_reports_64}
use Rattle.cut_reports.proofs.cut_reports.Goals as goal

pub returns : goal.returns
returns c = cut_reports_64
