-- `octets::number8` meets its contract. Assumes nothing.
use Rattle.octets.proofs.Bytes.{of_eight}
use Rattle.octets.proofs.number8.Goals as goal

pub returns : goal.returns
returns c =
    of_eight _ _ _ c.requires c.number4-low.ensures.0 c.number4-high.ensures.0
