-- `load_report::write_answer` meets its contract. Assumes nothing.
use mathlib.Core.Path.{refl}
use Rattle.load_report.proofs.Reported.{two_first}
use Rattle.load_report.proofs.write_answer.Goals as goal

pub returns : goal.returns
returns c = (two_first c.args.row.now _ _ c.requires, refl)
