-- `rows128::adding::part_rows` meets its contract. Assumes nothing.
use Rattle.std.proofs.Common.{ℕ, ◌+◌, List, sym, subst, arith, rules}
use Rattle.field128.specs.Joined.{parted}
use Rattle.rows128.proofs.ByPairs.{Pairing, pairing_room, pairing_next}
use Rattle.rows128.proofs.adding.part_rows.Goals as goal

pub element-requires : goal.element-requires
element-requires c =
    (pairing_room parted c.args.agg.now c.args.share.now c.loop-i.agg c.loop-i.i c.requires.0.0 c.requires.0.1 c.loop-i.invariant (omega arith)).0

pub element-requires-in-loop-i : goal.element-requires-in-loop-i
element-requires-in-loop-i c =
    (pairing_room parted c.args.agg.now c.args.share.now c.loop-i.agg c.loop-i.i c.requires.0.0 c.requires.0.1 c.loop-i.invariant (omega arith)).1

pub store-requires : goal.store-requires
store-requires c =
    (pairing_room parted c.args.agg.now c.args.share.now c.loop-i.agg c.loop-i.i c.requires.0.0 c.requires.0.1 c.loop-i.invariant (omega arith)).0

pub loop-i-preserved : goal.loop-i-preserved
loop-i-preserved c =
    let d = c.args.agg.now in
    let e = c.args.share.now in
    subst (λ (a : List ℕ). Pairing parted d e a (c.loop-i.i + 1)) (sym c.store.ensures) (pairing_next parted d e c.loop-i.agg c.loop-i.i c.requires.0.0 c.requires.0.1 c.loop-i.invariant _ _ c.part-e.result.low c.part-e.result.high (omega arith) c.element.ensures c.element-in-loop-i.ensures (search rules) c.part-e.ensures)
