-- `sampler::draw_by` meets its contract. Assumes nothing.
use mathlib.Core.Path.{◌≡◌, refl, ◌∙◌}
use mathlib.Core.List.{◌++◌}
use Prim.Native.Nat.{◌+◌, ◌-◌, ◌*◌}
use native.Mathlib.Omega.{arith}
use lib.ListN.{length, take, drop}
use lib.Seq.{length_front}
use borrow.Rule.Slice.PartMut.{same_len_mid}
use Rattle.field64.specs.Field.{p64}
use Rattle.groups.proofs.Swapped.{part_long}
use Rattle.sampler.specs.Drawing.{Drawing}
use Rattle.sampler.proofs.Keeping.{drawing_none, drawing_next}
use Rattle.sampler.proofs.draw_by.Lts as lts
use Rattle.sampler.proofs.draw_by.Reads as reads
use Rattle.sampler.proofs.draw_by.Tie as tie
use Rattle.sampler.proofs.draw_by.Goals as goal

abbrev After-draw_next-drew : Type 0
After-draw_next-drew = lts.After-draw_next tie.the-claims reads.Pre reads.Post goal.the-invariant-loop-n goal.the-decreases-loop-n tie.handed_clauses

-- the part of the row that is lent is as long as it says
mid_of : (c : After-draw_next-drew) → let l = c.loop-n in length (take (l.drew.count + l.n - l.drew.count) (drop l.drew.count l.row)) ≡ l.n
mid_of c =
    let l = c.loop-n in
    part_long l.drew.count (l.drew.count + l.n) l.row (omega arith) (omega (arith, l.invariant.0, l.invariant.1.within)) ∙ omega arith

step : (c : After-draw_next-drew) → let l = c.loop-n in Drawing p64 c.args.stream c.args.left c.draw_next-drew.result (take l.drew.count l.row ++ (c.draw_next-drew.new.row ++ drop (l.drew.count + l.n - l.drew.count) (drop l.drew.count l.row)))
step c =
    let l = c.loop-n in
    let d = c.draw_next-drew in
    let m = mid_of c in
    drawing_next p64 c.args.stream c.args.left l.drew d.result _ l.row d.new.row l.invariant.1 (omega (arith, m, l.invariant.0.1)) (omega (arith, m, l.invariant.0.1, l.invariant.1.within)) d.auto.row d.ensures _ (same_len_mid l.drew.count (l.drew.count + l.n - l.drew.count) l.row d.new.row d.auto.row)

pub loop-n-init : goal.loop-n-init
loop-n-init c = (((refl, refl), c.next_draws-n.ensures ∙ omega arith), drawing_none p64 c.args.stream c.args.left c.requires.0 c.args.row.now)

pub loop-n-preserved : goal.loop-n-preserved
loop-n-preserved c =
    let l = c.loop-n in
    let d = c.draw_next-drew in
    let e = l.drew.count + l.n in (
      ((length_front l.bytes d.new.bytes (8 * l.n) d.auto.bytes ∙ l.invariant.0.0.0, same_len_mid l.drew.count (e - l.drew.count) l.row d.new.row d.auto.row ∙ l.invariant.0.0.1), c.next_draws-n-in-loop-n.ensures),
      step c.before.before.before.before.before.before.before,
    )
