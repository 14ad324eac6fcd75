-- `tables::at` meets its contract. Assumes nothing.
use mathlib.Core.Path.{refl}
use borrow.Author.Rules.{rules}
use Rattle.field64.specs.Field.{p64}
use Rattle.rows.proofs.Elements.{below_at}
use Rattle.tables.proofs.at.Goals as goal

pub returns-then-k-row : goal.returns-then-k-row
returns-then-k-row c =
    (below_at p64 c.args.row.now c.requires c.args.k (search rules), refl)
