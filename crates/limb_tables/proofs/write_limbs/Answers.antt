-- `limb_tables::write_limbs` meets its contract. Assumes nothing.
use Rattle.field128.specs.Field128.{elements_of}
use Rattle.limb_tables.proofs.Entries.{limb_tables}
use Rattle.limb_tables.proofs.write_limbs.Goals as goal

pub returns : goal.returns
returns c =
    let high = c.write_limb-3 in
    let middle = c.write_limb-2 in
    let low = c.write_limb in
    limb_tables c.args.n (elements_of c.args.part.now) low.new.tables middle.new.tables high.new.tables c.requires.n_bound.0 low.ensures.tables middle.ensures.tables middle.ensures.by_index high.ensures.tables high.ensures.by_index
