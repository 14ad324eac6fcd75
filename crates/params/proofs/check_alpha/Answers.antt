-- `params::check_alpha` meets its contract. Assumes nothing.
use Rattle.params.proofs.check_alpha.Goals as goal

pub returns : goal.returns
returns c = simp (c.or.ensures, c.limit-below.ensures, c.limit-above.ensures)
