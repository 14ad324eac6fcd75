-- `layout::elements_below` meets its contract. Assumes nothing.
use Rattle.field64.specs.Field.{p64}
use Rattle.layout.proofs.Tests.{halves_in}
use Rattle.layout.proofs.elements_below.Goals as goal

pub returns : goal.returns
returns c =
    halves_in p64 c.args.count c.args.bytes.now _ c.both_below.ensures
