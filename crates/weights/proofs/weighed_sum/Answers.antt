-- `weights::weighed_sum` meets its contract. Assumes nothing.
use mathlib.Core.Path.{◌∙◌}
use Prim.Native.Nat.{◌+◌, ◌*◌}
use native.Mathlib.Omega.{arith}
use borrow.Author.Rules.{rules}
use lib.Dec.{lit<}
use lib.ListN.{length}
use Rattle.std.proofs.Common.{[], ◌∷◌, length-append}
use Rattle.std.proofs.lemmas.Slice.Zip.{zip_turn, zip_end}
use Rattle.field64.specs.Field.{p64, mul_mod}
use Rattle.sums.specs.Unreduced.{halves_of}
use Rattle.rows.specs.Rows.{by_element}
use Rattle.rows.proofs.ByElement.{length_by}
use Rattle.weights.proofs.Weights.{weight_at, sum_start, weighed_next, sum_end, half_room, half_next}
use Rattle.weights.proofs.weighed_sum.Goals as goal

pub loop-x-init : goal.loop-x-init
loop-x-init c = ((rw c.none-sum.ensures (omega arith), rw c.none-sum.ensures (omega arith)), rw c.none-sum.ensures (sum_start p64 (lit< tt) (by_element (mul_mod p64) c.args.xs.now c.args.weights.now)))

pub plus-sum-requires : goal.plus-sum-requires
plus-sum-requires c =
    let turn = zip_turn c.args.xs.now c.args.weights.now c.loop-x.yielded c.into_iter-x-iterator.result c.loop-x.x-iterator c.next.new.self _ (search rules) (search rules) c.loop-x.yielded_by _ c.in-Some.is c.next.ensures.steps in
    (rw (turn.3 0) (weight_at c.args.weights.now (length c.loop-x.yielded) _ c.requires.1.1 c.requires.1.0 turn.0), (half_room (length c.loop-x.yielded) _ _ turn.0 c.requires.0 c.loop-x.invariant.0.0, half_room (length c.loop-x.yielded) _ _ turn.0 c.requires.0 c.loop-x.invariant.0.1))

pub loop-x-preserved : goal.loop-x-preserved
loop-x-preserved c =
    let turn = zip_turn c.args.xs.now c.args.weights.now c.loop-x.yielded c.into_iter-x-iterator.result c.loop-x.x-iterator c.next.new.self _ (search rules) (search rules) c.loop-x.yielded_by _ c.in-Some.is c.next.ensures.steps in
    let e = c.plus-sum.ensures in
    rw (length-append c.loop-x.yielded ((c.in-Some.field-0-0, c.in-Some.field-0-1) ∷ [])) (
      (half_next (length c.loop-x.yielded) _ _ c.loop-x.invariant.0.0 e.1.0, half_next (length c.loop-x.yielded) _ _ c.loop-x.invariant.0.1 e.1.1),
      weighed_next p64 (lit< tt) (halves_of c.loop-x.sum) (halves_of c.plus-sum.result) (length c.loop-x.yielded) c.args.xs.now c.args.weights.now c.requires.1.0 turn.0 c.loop-x.invariant.1 (e.0 ∙ (λ i. halves_of c.loop-x.sum + turn.2 0 i * turn.3 0 i)),
    )

pub returns : goal.returns
returns c =
    let end = zip_end c.args.xs.now c.args.weights.now c.loop-x.yielded c.into_iter-x-iterator.result c.loop-x.x-iterator c.next.new.self _ (search rules) (search rules) c.loop-x.yielded_by c.in-None.is c.next.ensures.steps in
    c.reduced.ensures ∙ sum_end p64 (lit< tt) (halves_of c.loop-x.sum) (length c.loop-x.yielded) (by_element (mul_mod p64) c.args.xs.now c.args.weights.now) (rw (length_by (mul_mod p64) c.args.xs.now c.args.weights.now c.requires.1.0) (omega arith)) c.loop-x.invariant.1
