-- `rows128::sub_rows` meets its contract. Assumes nothing.
use Rattle.std.proofs.Common.{ℕ, ◌+◌, List, sym, subst, le_of_lt, arith, rules}
use Rattle.field64.specs.Field.{sub_mod}
use Rattle.field128.specs.Field128.{p128}
use Rattle.field128.proofs.Pairs.{elements_length}
use Rattle.rows128.proofs.ByPairs.{Pairing, pairing_room, pairing_below, pairing_next, pairing_end}
use Rattle.rows128.proofs.sub_rows.Goals as goal

pub element-requires : goal.element-requires
element-requires c =
    (pairing_room (sub_mod p128) c.args.agg.now c.args.share.now c.loop-i.agg c.loop-i.i c.requires.whole.0 c.requires.whole.1 c.loop-i.invariant (omega (arith, elements_length c.args.agg.now))).0

pub element-requires-in-loop-i : goal.element-requires-in-loop-i
element-requires-in-loop-i c =
    (pairing_room (sub_mod p128) c.args.agg.now c.args.share.now c.loop-i.agg c.loop-i.i c.requires.whole.0 c.requires.whole.1 c.loop-i.invariant (omega (arith, elements_length c.args.agg.now))).1

pub sub-difference-requires : goal.sub-difference-requires
sub-difference-requires c =
    let h = pairing_below (sub_mod p128) c.args.agg.now c.args.share.now c.loop-i.agg c.loop-i.i c.requires.whole.0 c.requires.whole.1 c.loop-i.invariant p128 _ _ c.requires.below (omega (arith, elements_length c.args.agg.now)) c.element.ensures c.element-in-loop-i.ensures in
    (h.0, le_of_lt h.1)

pub store-requires : goal.store-requires
store-requires c =
    (pairing_room (sub_mod p128) c.args.agg.now c.args.share.now c.loop-i.agg c.loop-i.i c.requires.whole.0 c.requires.whole.1 c.loop-i.invariant (omega (arith, elements_length c.args.agg.now))).0

pub loop-i-preserved : goal.loop-i-preserved
loop-i-preserved c =
    let d = c.args.agg.now in
    let e = c.args.share.now in
    subst (λ (a : List ℕ). Pairing (sub_mod p128) d e a (c.loop-i.i + 1)) (sym c.store.ensures) (pairing_next (sub_mod p128) d e c.loop-i.agg c.loop-i.i c.requires.whole.0 c.requires.whole.1 c.loop-i.invariant _ _ c.sub-difference.result.low c.sub-difference.result.high (omega (arith, elements_length d)) c.element.ensures c.element-in-loop-i.ensures (search rules) c.sub-difference.ensures)

pub returns : goal.returns
returns c =
    pairing_end (sub_mod p128) c.args.agg.now c.args.share.now c.loop-i.agg c.loop-i.i c.requires.whole.0 c.requires.whole.1 c.loop-i.invariant (omega (arith, elements_length c.args.agg.now))
