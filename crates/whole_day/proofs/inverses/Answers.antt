-- `whole_day::inverses` meets its contract. Assumes nothing.
use Rattle.whole_day.proofs.Whole as whole
use Rattle.whole_day.proofs.inverses.Goals as goal

pub returns : goal.returns
returns c = whole.inverses
