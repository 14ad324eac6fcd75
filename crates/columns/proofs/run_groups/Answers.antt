-- `columns::run_groups` meets its contract: after the bytes before j, each result is over the first 4j coordinates. Assumes nothing.
use mathlib.Core.Path.{refl, ◌∙◌}
use Prim.Native.Nat.{◌-◌, ◌*◌, ◌≤◌}
use native.Mathlib.Omega.{arith}
use lib.ListN.{length, take, drop}
use lib.Dec.{lit<}
use Rattle.field64.specs.Field.{p64}
use Rattle.rows.proofs.Elements.{below_take, below_drop}
use Rattle.groups.proofs.Swapped.{Fits, group_fits, group_cut, part_long, room_less, groups_start, groups_below, groups_next, same_room}
use Rattle.columns.proofs.run_groups.Lts as lts
use Rattle.columns.proofs.run_groups.Reads as reads
use Rattle.columns.proofs.run_groups.Tie as tie
use Rattle.columns.proofs.run_groups.Goals as goal

abbrev After-group_from-group : Type 0
After-group_from-group = lts.After-group_from tie.the-claims reads.Pre reads.Post goal.the-invariant-loop-j goal.the-decreases-loop-j tie.handed_clauses

fits : (g : After-group_from-group) → Fits g.loop-j.j g.args.width g.args.per (length g.args.gradient.now) g.group_from-group.result
fits g = group_fits _ _ _ _ _ g.loop-j-test.true g.requires.below.1.0.0 g.group_from-group.ensures

pub loop-j-init : goal.loop-j-init
loop-j-init c =
    (omega arith, refl, refl, groups_start p64 c.args.per c.args.stream.now c.args.gradient.now _ c.args.results.now c.zero_row.ensures)

pub add_group-requires : goal.add_group-requires
add_group-requires c =
    let r = c.group_from-group.result in
    let xs = c.args.gradient.now in
    let long : length (take (r.last - r.first) (drop r.first xs)) ≤ 4 * (r.end - c.loop-j.j) = rw (part_long r.first r.last xs (fits c.before.before.before.before.before).in_order (fits c.before.before.before.before.before).coordinates) (fits c.before.before.before.before.before).few_coordinates in
    let T = c.loop-j.invariant.2 ∙ c.zero_row.auto.row in
    let room = room_less _ _ (r.end - c.loop-j.j) c.args.width _ _ T c.loop-j.invariant.1 (fits c.before.before.before.before.before).few c.requires.below.1.1 in
    record {
      per_in_bounds = (same_room _ _ c.args.per _ T c.requires.per_in_bounds.0, (omega (arith, fits c.before.before.before.before.before), omega (arith, (fits c.before.before.before.before.before).few, c.requires.below.1.0.1)));
      below = (below_take p64 (r.last - r.first) (drop r.first xs) (below_drop p64 r.first xs c.requires.below.0), (long, room));
      below_2 = groups_below p64 c.args.per c.args.stream.now xs c.loop-j.results c.loop-j.j _ (lit< tt) c.loop-j.invariant.3;
    }

pub loop-j-preserved : goal.loop-j-preserved
loop-j-preserved c =
    let a = c.add_group in
    let xs = c.args.gradient.now in
    let h : (c.loop-j.j ≤ c.group_from-group.result.end) × (c.group_from-group.result.end ≤ c.args.per) = (omega (arith, fits c.before.before.before.before.before.before.before.before.before.before), (fits c.before.before.before.before.before.before.before.before.before.before).inside) in
    ((fits c.before.before.before.before.before.before.before.before.before.before).inside, a.auto.spare ∙ c.loop-j.invariant.1, a.auto.results ∙ c.loop-j.invariant.2, groups_next p64 c.args.per c.args.stream.now xs c.loop-j.results c.loop-j.j c.group_from-group.result.end _ _ _ _ (lit< tt) h refl (group_cut c.loop-j.j _ c.args.per xs c.group_from-group.result c.loop-j-test.true c.group_from-group.ensures) c.loop-j.invariant.3 a.ensures)
