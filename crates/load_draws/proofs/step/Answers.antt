-- `load_draws::step` meets its contract. Assumes nothing.
use borrow.Author.Rules.{rules}
use Rattle.load_draws.specs.Draws.{step}
use Rattle.load_draws.proofs.step.Goals as goal

pub returns : goal.returns
unfolding step
returns c = search rules
