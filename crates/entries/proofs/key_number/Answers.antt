-- `entries::key_number` meets its contract. Assumes nothing.
use Rattle.entries.proofs.Keys.{key_eight}
use Rattle.entries.proofs.key_number.Goals as goal

pub returns : goal.returns
returns c =
    key_eight c.args.part.now _ _ c.requires c.number4-high.ensures.0 c.number4-low.ensures.0
