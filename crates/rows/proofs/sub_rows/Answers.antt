-- `rows::sub_rows` meets its contract. Assumes nothing.
use Rattle.std.proofs.Common.{refl, arith, rules}
use Rattle.field64.specs.Field.{p64, sub_mod}
use Rattle.rows.proofs.Joining.{reads_below, joining_next, joined_end}
use Rattle.rows.proofs.sub_rows.Goals as goal

pub loop-i-init : goal.loop-i-init
loop-i-init c = (search rules, refl, refl)

pub sub_by_bits-requires : goal.sub_by_bits-requires
sub_by_bits-requires c =
    reads_below (sub_mod p64) c.args.agg.now c.args.share.now c.loop-i.agg c.loop-i.i c.requires.0 c.loop-i.invariant p64 c.requires.1 (omega arith)

pub loop-i-preserved : goal.loop-i-preserved
loop-i-preserved c =
    joining_next (sub_mod p64) c.args.agg.now c.args.share.now c.loop-i.agg c.loop-i.i c.requires.0 c.loop-i.invariant (omega arith) c.sub_by_bits.result c.sub_by_bits.ensures

pub shape_of-agg : goal.shape_of-agg
shape_of-agg c = c.loop-i.invariant.1

pub returns : goal.returns
returns c =
    joined_end (sub_mod p64) c.args.agg.now c.args.share.now c.loop-i.agg c.loop-i.i c.requires.0 c.loop-i.invariant (omega arith)
