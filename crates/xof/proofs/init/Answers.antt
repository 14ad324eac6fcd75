-- `xof::init` meets its contract. Assumes nothing.
use mathlib.Core.Path.{ap₂, ◌∙◌}
use mathlib.Core.List.{◌∷◌}
use Rattle.turboshake.specs.Stream.{absorb_all}
use Rattle.xof.specs.Xof.{algorithm_id, dst}
use Rattle.xof.proofs.Frame.{parts_absorbed}
use Rattle.xof.proofs.init.Goals as goal

pub returns : goal.returns
returns c = (
  parts_absorbed (7 ∷ dst algorithm_id c.args.usage) c.args.seed c.absorb.result _ (c.absorb.ensures.0 ∙ ap₂ absorb_all c.tag-tag.ensures c.new.ensures.0) c.absorb-2.ensures.0,
  c.absorb-2.ensures.1,
)
