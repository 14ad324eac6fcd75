-- `seeded_gradient::take_blocks` meets its contract. Assumes nothing.
use mathlib.Core.Path.{◌≡◌, sym, ap, subst, ◌∙◌}
use mathlib.Core.Logic.{◌⊎◌}
use Prim.Native.Nat.{ℕ, ◌+◌, ◌-◌, ◌*◌, ◌≤◌, ◌<◌}
use native.Mathlib.Omega.{arith}
use borrow.Rule.Slice.PartMut.{same_len_mid}
use lib.ListN.{length}
use lib.Seq.{length_front}
use Rattle.field64.specs.Field.{p64}
use Rattle.flp.specs.Encode.{elements}
use Rattle.turboshake.specs.Stream.{after}
use Rattle.groups.proofs.Swapped.{part_long, row_long}
use Rattle.wr_joint_rand.proofs.Blocks.{Done, first_done, next_drawn, all, after_more}
use Rattle.seeded_gradient.proofs.take_blocks.Lts as lts
use Rattle.seeded_gradient.proofs.take_blocks.Reads as reads
use Rattle.seeded_gradient.proofs.take_blocks.Tie as tie
use Rattle.seeded_gradient.proofs.take_blocks.Goals as goal

abbrev After-block_len : Type 0
After-block_len = lts.After-block_len2 tie.the-claims reads.Pre reads.Post goal.the-invariant-loop-t goal.the-decreases-loop-t tie.handed_clauses

abbrev At-loop-t : Type 0
At-loop-t = lts.At-loop tie.the-claims reads.Pre reads.Post goal.the-invariant-loop-t goal.the-decreases-loop-t tie.handed_clauses

-- a block that fits the buffer, or goes by tiles
abbrev Small : (per n : ℕ) → Type 0
Small per n = (n * per ≤ 8192) ⊎ (n ≤ 50)

-- a block: the tests from t on, up to e, of T
record Block (per t e T : ℕ) : Type 0 where
  pub on : t < e
  pub inside : e ≤ T
  pub small : Small per (e - t)

block : (per t r T : ℕ) → t < T → ((0 < r) × (r ≤ T - t)) × Small per r → Block per t (t + r) T
block per t r T h b =
    let same : r ≡ t + r - t = omega arith in
    record { on = omega (arith, b.0.0); inside = omega (arith, h, b.0.1); small = subst (Small per) same b.1 }

block_of : (c : After-block_len) → Block c.args.per c.loop-t.t (c.loop-t.t + c.block_len.result) (length c.loop-t.results)
block_of c = block _ _ _ _ c.loop-t-test.true c.block_len.ensures

-- the results have been as many all along
many : (c : At-loop-t) → length c.loop-t.results ≡ length c.args.results.now
many c = c.loop-t.invariant.1 ∙ length_front c.args.results.now c.take_block-taken.new.results (c.block_len-first.result - 0) c.take_block-taken.auto.results

pub loop-t-preserved : goal.loop-t-preserved
loop-t-preserved c =
    let l = c.loop-t in
    let b = block_of c.before.before.before.before.before.before in
    let e = l.t + c.block_len.result in
    let r = c.take_block-more in
    let per = c.args.per in
    let xs = elements p64 c.args.frac_bits c.args.gradient.now in
    let h : l.t ≤ e = omega arith in
    let long = part_long l.t e l.results h b.inside in (
      omega (arith, b.inside, l.invariant.1),
      same_len_mid l.t (e - l.t) l.results r.new.results r.auto.results ∙ l.invariant.1,
      r.ensures.next_value.1,
      (λ u from done.
          let d = l.invariant.3 u from done in (
            after_more l.t e per u l.state _ h d.0 (r.ensures.next_value.0 ∙ ap (λ (n : ℕ). after (n * per) l.state) long),
            next_drawn p64 per xs u l.t e _ l.results _ _ l.state (h, b.inside) (r.auto.results ∙ long) long d.0 d.1 r.ensures.results_after,
          )),
    )

pub returns : goal.returns
returns c =
    let l = c.loop-t in
    let r = c.take_block-taken in
    let b = c.block_len-first in
    let per = c.args.per in
    let u = c.args.stream in
    let xs = elements p64 c.args.frac_bits c.args.gradient.now in
    let long = row_long b.result c.args.results.now b.ensures.0.1 in
    let end : l.t ≡ length c.args.results.now = omega (arith, c.loop-t-test.false, l.invariant.0, l.invariant.1, many c.before.before.before) in
    let begun = first_done p64 per xs u b.result _ r.new.results _ (r.auto.results ∙ long) long r.ensures.results_after in
    let d = l.invariant.3 u (r.ensures.next_value.0 ∙ ap (λ (n : ℕ). after (n * per) u) long) begun in
    record {
      result_value = r.ensures.norm_value;
      results_after = all p64 per xs u (length c.args.results.now) l.results (sym (many c.before.before.before)) (subst (λ (t : ℕ). Done p64 per xs u t l.results) end d.1);
    }
