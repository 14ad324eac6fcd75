-- `byte_columns::plus_pair` meets its contract. Assumes nothing.
use Rattle.field64.specs.Field.{p64}
use Rattle.rows.proofs.Elements.{below_at}
use Rattle.byte_columns.proofs.plus_pair.Goals as goal

pub weighed_by-requires : goal.weighed_by-requires
weighed_by-requires c =
    below_at p64 c.args.xs.now c.requires.0 c.args.k c.requires.1.0
