-- `tables::add_tabled` meets its contract. Assumes nothing.
use mathlib.Core.Path.{◌∙◌}
use Prim.Native.Nat.{◌*◌}
use native.Mathlib.Omega.{arith}
use lib.Dec.{lit<}
use Rattle.field64.specs.Field.{p64}
use Rattle.rows.proofs.Elements.{below_all}
use Rattle.tables.proofs.Tables.{group_law}
use Rattle.tables.proofs.add_tabled.Goals as goal

pub returns : goal.returns
returns c =
    let t = c.write_tables in
    let bytes = below_all 256 c.args.stream.now (λ k h. (c.type_inv.stream k).fits) in
    c.less_group.ensures
    ∙ group_law p64 (2 * c.args.n) c.args.xs.now t.new.tables (lit< tt) t.ensures c.args.per c.args.j c.args.n c.args.stream.now c.args.results.now (omega arith) bytes
