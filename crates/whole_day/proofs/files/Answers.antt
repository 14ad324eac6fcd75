-- `whole_day::files` meets its contract. Assumes nothing.
use Rattle.whole_day.proofs.Whole as whole
use Rattle.whole_day.proofs.files.Goals as goal

pub returns : goal.returns
returns c = whole.files
