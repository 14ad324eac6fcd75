-- `whole_day::one_adding` meets its contract. Assumes nothing.
use Rattle.whole_day.proofs.Whole as whole
use Rattle.whole_day.proofs.one_adding.Goals as goal

pub returns : goal.returns
returns c = whole.one_adding
