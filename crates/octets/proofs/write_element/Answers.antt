-- `octets::write_element` meets its contract. Assumes nothing.
use Rattle.octets.proofs.Bytes.{eight_set}
use Rattle.octets.proofs.write_element.Goals as goal

pub returns : goal.returns
returns c = eight_set c.args.x c.args.row.now c.requires
