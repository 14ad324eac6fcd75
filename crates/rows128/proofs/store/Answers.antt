-- `rows128::store` meets its contract. Assumes nothing.
use Rattle.std.proofs.Common.{length-set}
use Rattle.field128.proofs.Pairs.{element_inside}
use Rattle.rows128.proofs.store.Goals as goal

pub bounds-row-next : goal.bounds-row-next
bounds-row-next c = simp length-set (element_inside c.args.row.now c.args.i c.requires)
