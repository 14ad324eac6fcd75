-- `xof::seed_stream` meets its contract. Assumes nothing.
use mathlib.Core.Path.{ap, ◌∙◌}
use Rattle.turboshake.specs.Stream.{finished}
use Rattle.xof.specs.Xof.{algorithm_id, dst, before_binder}
use Rattle.xof.proofs.Frame.{parts_absorbed}
use Rattle.xof.proofs.seed_stream.Goals as goal

pub returns : goal.returns
returns c =
    (c.into_seed_stream.ensures.0 ∙ ap (finished 1) (parts_absorbed (before_binder c.args.seed (dst algorithm_id c.args.usage)) c.args.binder.now c.init.result _ c.init.ensures.0 c.absorb.ensures.0), c.into_seed_stream.ensures.1)
