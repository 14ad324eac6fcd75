-- `whole_day::exact_size` meets its contract. Assumes nothing.
use Rattle.whole_day.proofs.Whole as whole
use Rattle.whole_day.proofs.exact_size.Goals as goal

pub returns : goal.returns
returns c = whole.exact_size
