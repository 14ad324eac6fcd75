-- `wr_joint_rand::run_blocks` meets its contract. Assumes nothing.
use mathlib.Core.Path.{refl, ap, ◌∙◌}
use Prim.Native.Nat.{◌-◌, ◌*◌}
use native.Mathlib.Omega.{arith}
use lib.ListN.{length}
use Rattle.field64.specs.Field.{p64}
use Rattle.turboshake.specs.Stream.{drawn}
use Rattle.groups.proofs.Swapped.{part_long}
use borrow.Rule.Slice.PartMut.{same_len_mid}
use Rattle.wr_joint_rand.proofs.Blocks.{none, next, start_is, after_more, Block, block}
use Rattle.wr_joint_rand.proofs.run_blocks.Lts as lts
use Rattle.wr_joint_rand.proofs.run_blocks.Reads as reads
use Rattle.wr_joint_rand.proofs.run_blocks.Tie as tie
use Rattle.wr_joint_rand.proofs.run_blocks.Goals as goal

abbrev After-at_most-end : Type 0
After-at_most-end = lts.After-at_most tie.the-claims reads.Pre reads.Post goal.the-invariant-loop-t goal.the-decreases-loop-t tie.handed_clauses

block_of : (c : After-at_most-end) → let l = c.loop-t in Block c.args.per (length c.args.buffer.now) (length l.results) l.t c.at_most-end.result c.requires.at_bound.1.0 c.loop-t-test.true c.at_most-end.ensures
block_of c = block _ _ _ _ _ _ _ _

pub loop-t-init : goal.loop-t-init
loop-t-init c =
    (omega arith, refl, refl, c.requires.at_bound.0, start_is c.args.per c.args.stream, none p64 c.args.per c.args.gradient.now c.args.stream c.args.results.now)

pub loop-t-preserved : goal.loop-t-preserved
loop-t-preserved c =
    let l = c.loop-t in
    let b = block_of c.before.before.before.before.before.before.before.before.before in
    let d = c.draw-state in
    let r = c.run_block in
    let e = c.at_most-end.result in
    let mid = part_long l.t e l.results (omega (arith, b)) b.inside in (
      omega (arith, b.inside, l.invariant.2),
      d.auto.buffer ∙ l.invariant.1,
      same_len_mid l.t (e - l.t) l.results r.new.results r.auto.results ∙ l.invariant.2,
      d.ensures.1.1,
      after_more l.t e c.args.per c.args.stream l.state _ (omega (arith, b)) l.invariant.4 d.ensures.1.0,
      next p64 c.args.per c.args.gradient.now c.args.stream l.t e _ _ l.results _ _ (omega (arith, b), b.inside) (r.auto.results ∙ mid) mid (omega (arith, b.room, l.invariant.1, d.auto.buffer)) (d.ensures.0 ∙ ap (drawn ((e - l.t) * c.args.per)) l.invariant.4) l.invariant.5 r.ensures,
    )
