-- `whole_day::whole_days` meets its contract. Assumes nothing.
use Rattle.whole_day.proofs.Whole as whole
use Rattle.whole_day.proofs.whole_days.Goals as goal

pub returns : goal.returns
returns c = whole.whole_days
