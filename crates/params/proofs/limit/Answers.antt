-- `params::limit` meets its contract. Assumes nothing.
use mathlib.Core.Path.{◌∙◌, ap}
use mathlib.Core.Bool.{Bool}
use Rattle.rules.specs.Rules.{refuse}
use Rattle.params.proofs.limit.Goals as goal

pub returns : goal.returns
returns c = c.refuse_if.ensures ∙ ap (λ (t : Bool). refuse t c.args.number 0) c.outside.ensures
