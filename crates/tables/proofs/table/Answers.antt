-- `tables::table` meets its contract. Assumes nothing.
use mathlib.Core.Path.{refl}
use Rattle.field64.specs.Field.{p64}
use Rattle.tables.proofs.Tables.{less_table_law}
use Rattle.tables.proofs.table.Goals as goal

pub returns : goal.returns
returns c =
    less_table_law p64 c.args.a c.args.b _ _ _ _ _ _ c.requires.0 c.requires.1 refl refl c.add-pp.ensures c.sub-pm.ensures refl refl
