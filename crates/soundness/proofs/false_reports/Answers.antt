-- `soundness::false_reports` meets its contract. Assumes nothing.
use Rattle.soundness.proofs.Soundness.{soundness_64}
use Rattle.soundness.proofs.false_reports.Goals as goal

pub returns : goal.returns
returns c = soundness_64
