-- `whole_day::key_doubles` meets its contract. Assumes nothing.
use Rattle.whole_day.proofs.Whole as whole
use Rattle.whole_day.proofs.key_doubles.Goals as goal

pub returns : goal.returns
returns c = whole.key_doubles
