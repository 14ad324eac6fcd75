-- `rows::add_rows` meets its contract. Assumes nothing.
use Rattle.std.proofs.Common.{refl, arith, rules}
use Rattle.field64.specs.Field.{p64, add_mod}
use Rattle.rows.proofs.Joining.{reads_below, joining_next, joined_end}
use Rattle.rows.proofs.add_rows.Goals as goal

pub loop-i-init : goal.loop-i-init
loop-i-init c = (search rules, refl, refl)

pub add_by_bits-requires : goal.add_by_bits-requires
add_by_bits-requires c =
    reads_below (add_mod p64) c.args.agg.now c.args.share.now c.loop-i.agg c.loop-i.i c.requires.0 c.loop-i.invariant p64 c.requires.1 (omega arith)

pub loop-i-preserved : goal.loop-i-preserved
loop-i-preserved c =
    joining_next (add_mod p64) c.args.agg.now c.args.share.now c.loop-i.agg c.loop-i.i c.requires.0 c.loop-i.invariant (omega arith) c.add_by_bits.result c.add_by_bits.ensures

pub shape_of-agg : goal.shape_of-agg
shape_of-agg c = c.loop-i.invariant.1

pub returns : goal.returns
returns c =
    joined_end (add_mod p64) c.args.agg.now c.args.share.now c.loop-i.agg c.loop-i.i c.requires.0 c.loop-i.invariant (omega arith)
