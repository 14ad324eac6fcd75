-- `limbs::join_rows` meets its contract. Assumes nothing.
use Rattle.std.proofs.Common.{arith, rules}
use Rattle.limbs.specs.Limbs.{modulus_of}
use Rattle.limbs.proofs.Words.{rows_inside, results_below, joined_next, joined_end}
use Rattle.limbs.proofs.join_rows.Goals as goal

pub join-requires : goal.join-requires
join-requires c =
    results_below (modulus_of c.args.reduced) c.args.low.now c.args.middle.now c.args.high.now c.args.results.now c.loop-i.results c.loop-i.i c.requires.whole.0 c.requires.whole.1 c.loop-i.invariant (omega arith) c.requires.below

pub store-requires : goal.store-requires
store-requires c =
    (rows_inside (modulus_of c.args.reduced) c.args.low.now c.args.middle.now c.args.high.now c.args.results.now c.loop-i.results c.loop-i.i c.requires.whole.0 c.requires.whole.1 c.loop-i.invariant (omega arith)).1.1

pub loop-i-preserved : goal.loop-i-preserved
loop-i-preserved c =
    joined_next (modulus_of c.args.reduced) c.args.low.now c.args.middle.now c.args.high.now c.args.results.now c.loop-i.results c.loop-i.i c.requires.whole.0 c.requires.whole.1 c.loop-i.invariant (omega arith) c.join.result.low c.join.result.high _ (search rules) c.join.ensures c.store.ensures

pub returns : goal.returns
returns c =
    joined_end (modulus_of c.args.reduced) c.args.low.now c.args.middle.now c.args.high.now c.args.results.now c.loop-i.results c.loop-i.i c.requires.whole.0 c.requires.whole.1 c.loop-i.invariant (omega arith)
