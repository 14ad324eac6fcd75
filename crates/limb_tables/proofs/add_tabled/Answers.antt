-- `limb_tables::add_tabled` meets its contract. Assumes nothing.
use Rattle.std.proofs.Common.{◌^◌, lit<}
use Rattle.rows.proofs.Elements.{below_all}
use Rattle.field128.specs.Field128.{elements_of}
use Rattle.limbs.specs.Limbs.{limbs}
use Rattle.limb_tables.proofs.Entries.{group_added}
use Rattle.limb_tables.proofs.add_tabled.Goals as goal

pub returns : goal.returns
returns c =
    let l = c.less_group in
    let w = c.write_limbs in
    let t = w.new.tables in
    let xs = elements_of c.args.part.now in
    let bytes = below_all 256 c.args.stream.now (λ k h. (c.shared_slice_known-2-1.given k).fits) in
    record {
      low_after = group_added (2 ^ 64) c.args.n c.args.per c.args.j 0 (limbs 0 xs) t c.args.stream.now c.args.low.now _ (lit< tt) w.ensures.0 bytes l.ensures.low_after;
      middle_after = group_added (2 ^ 64) c.args.n c.args.per c.args.j 256 (limbs 1 xs) t c.args.stream.now c.args.middle.now _ (lit< tt) w.ensures.1.0 bytes l.ensures.middle_after;
      high_after = group_added (2 ^ 64) c.args.n c.args.per c.args.j 512 (limbs 2 xs) t c.args.stream.now c.args.high.now _ (lit< tt) w.ensures.1.1 bytes l.ensures.high_after;
    }
