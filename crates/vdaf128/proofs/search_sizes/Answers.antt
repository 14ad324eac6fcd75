-- `vdaf128::search_sizes` meets its contract. The invariant: the answer for the sums is that for the rest, counted from i. Assumes nothing.
use mathlib.Core.Path.{◌≡◌, sym, ap, ◌∙◌}
use native.Mathlib.Omega.{arith}
use lib.ListN.{get_or}
use Rattle.rules.specs.declared.Answer.{Answer}
use Rattle.field128.specs.Field128.{p128, number_of}
use Rattle.doubles.specs.Doubles.{size_rule}
use Rattle.doubles128.specs.Doubles128.{size_limit128}
use Rattle.vdaf128.proofs.Sizes.{sums, sums_long, sum_inside, sum_is, sizes_next, sizes_stop, sizes_end}
use Rattle.vdaf128.proofs.search_sizes.Goals as goal

pub sum_at-requires : goal.sum_at-requires
sum_at-requires c =
    record {
      i_in_bounds = sum_inside c.args.left.now c.args.right.now c.requires.left_len c.loop-i.i (omega arith);
      below = c.requires.below;
    }

pub returns-then-answer-ne0 : goal.returns-then-answer-ne0
returns-then-answer-ne0 c =
    let x = c.args.left.now in
    let y = c.args.right.now in
    let e = sum_is x y c.requires.left_len c.loop-i.i (omega arith) (number_of c.sum_at.result) c.sum_at.ensures in
    sizes_stop p128 size_limit128 (sums x y) c.loop-i.i (omega (arith, sums_long x y c.requires.left_len)) c.loop-i.invariant c.check_size-answer.result (c.check_size-answer.ensures ∙ ap (size_rule p128 size_limit128) e) c.if-answer-ne0.true

pub loop-i-preserved : goal.loop-i-preserved
loop-i-preserved c =
    let x = c.args.left.now in
    let y = c.args.right.now in
    let e = sum_is x y c.requires.left_len c.loop-i.i (omega arith) (number_of c.sum_at.result) c.sum_at.ensures in
    let z : (size_rule p128 size_limit128 (get_or (sums x y) c.loop-i.i 0)).number ≡ 0 = ap (λ (a : Answer). a.number) (sym (c.check_size-answer.ensures ∙ ap (size_rule p128 size_limit128) e)) ∙ c.if-answer-ne0.false in
    sizes_next p128 size_limit128 (sums x y) c.loop-i.i (omega (arith, sums_long x y c.requires.left_len)) c.loop-i.invariant z

pub returns : goal.returns
returns c =
    let x = c.args.left.now in
    let y = c.args.right.now in
    c.accepted.ensures ∙ sizes_end p128 size_limit128 (sums x y) c.loop-i.i (omega (arith, sums_long x y c.requires.left_len)) c.loop-i.invariant
