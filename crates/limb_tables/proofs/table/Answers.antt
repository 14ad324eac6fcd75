-- `limb_tables::table` meets its contract. Assumes nothing.
use Rattle.std.proofs.Common.{◌^◌, rules}
use Rattle.tables.proofs.Tables.{table_law}
use Rattle.limb_tables.proofs.Entries.{again, whole}
use Rattle.limb_tables.proofs.table.Goals as goal

pub returns : goal.returns
returns c =
    table_law (2 ^ 64) c.args.a c.args.b _ _ _ _ _ _ (search rules) (search rules) c.wrapping_sub_u64-na.ensures.value c.wrapping_sub_u64-nb.ensures.value (again _ _ _ c.wrapping_add_u64-pp.ensures.value) (whole _ _ _ c.wrapping_sub_u64-pm.ensures.value) c.wrapping_sub_u64-mp.ensures.value c.wrapping_sub_u64-mm.ensures.value
