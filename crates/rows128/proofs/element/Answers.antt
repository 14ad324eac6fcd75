-- `rows128::element` meets its contract. Assumes nothing.
use Rattle.rows128.proofs.ByPairs.{element_by_words}
use Rattle.rows128.proofs.element.Goals as goal

pub returns : goal.returns
returns c = element_by_words c.args.row.now c.args.i _ _ c.requires c.read.ensures
