-- `vdaf128::count_large` meets its contract. The invariant: as long as none is counted, the answer for the sums is that for the rest. Assumes nothing.
use native.Mathlib.Omega.{arith}
use Rattle.field128.specs.Field128.{p128, number_of}
use Rattle.doubles128.specs.Doubles128.{size_limit128}
use Rattle.vdaf128.proofs.Sizes.{sums, sums_long, sum_inside, sum_is, small_by_flag, sizes_next, sizes_end}
use Rattle.vdaf128.proofs.count_large.Goals as goal

pub sum_at-requires : goal.sum_at-requires
sum_at-requires c =
    record {
      i_in_bounds = sum_inside c.args.left.now c.args.right.now c.requires.left_len c.loop-i.i (omega arith);
      below = c.requires.below;
    }

pub loop-i-preserved : goal.loop-i-preserved
loop-i-preserved c =
    let x = c.args.left.now in
    let y = c.args.right.now in
    let q = small_by_flag p128 size_limit128 (number_of c.sum_at.result) c.size_flag-count.result c.size_flag-count.ensures in
    let e = sum_is x y c.requires.left_len c.loop-i.i (omega arith) (number_of c.sum_at.result) c.sum_at.ensures in
    (omega (arith, q.0), λ z. sizes_next p128 size_limit128 (sums x y) c.loop-i.i (omega (arith, sums_long x y c.requires.left_len)) (c.loop-i.invariant.1 (omega arith)) (rw (← e) (q.1 (omega arith))))

pub returns : goal.returns
returns c =
    let x = c.args.left.now in
    let y = c.args.right.now in
    λ z. sizes_end p128 size_limit128 (sums x y) c.loop-i.i (omega (arith, sums_long x y c.requires.left_len)) (c.loop-i.invariant.1 z)
