-- `tiles::run_tiles` meets its contract: after the bytes before j, the norm and each result are over the first 4j coordinates, and each state is j bytes on. Assumes nothing.
use mathlib.Core.Path.{◌≡◌, refl, sym, ap, subst, ◌∙◌}
use Prim.Native.Nat.{ℕ, ◌+◌, ◌-◌, ◌*◌, ◌≤◌, ◌<◌}
use native.Mathlib.Nat.{le_refl}
use native.Mathlib.Omega.{arith}
use lib.ListN.{length, drop}
use lib.Dec.{lit<}
use Rattle.field64.specs.Field.{p64}
use Rattle.sums.specs.Unreduced.{words_of}
use Rattle.doubles.specs.Doubles.{floor_limit64}
use Rattle.flp.specs.Tests.{tests_of}
use Rattle.flp.specs.Encode.{elements}
use Rattle.flp.proofs.Gradient.{length_elements}
use Rattle.groups.proofs.Swapped.{Fits, group_fits, group_cut, part_long, groups_start, groups_below, groups_next, groups_end}
use Rattle.gradient_groups.proofs.Norm.{usable_take, usable_drop, elements_cut, top_fits, top_grown, none_room, none_more, norm_start, norm_next, norm_end}
use Rattle.stream_states.specs.States.{states_of, tile_of, all_after, Ready}
use Rattle.stream_states.proofs.States.{after_none, after_more, all_ready, roomy, length_states}
use Rattle.tiles.proofs.Sides.{sides_added}
use Rattle.tiles.proofs.run_tiles.Lts as lts
use Rattle.tiles.proofs.run_tiles.Reads as reads
use Rattle.tiles.proofs.run_tiles.Tie as tie
use Rattle.tiles.proofs.run_tiles.Goals as goal

abbrev After-group_from-group : Type 0
After-group_from-group = lts.After-group_from tie.the-claims reads.Pre reads.Post goal.the-invariant-loop-j goal.the-decreases-loop-j tie.handed_clauses

fits : (g : After-group_from-group) → Fits g.loop-j.j 128 g.args.per (length g.args.gradient.now) g.group_from-group.result
fits g = group_fits _ _ _ _ _ g.loop-j-test.true (lit< tt) g.group_from-group.ensures

pub loop-j-init : goal.loop-j-init
loop-j-init c =
    let z = c.zero_row in
    let starts = states_of (length z.new.row) c.args.states.now in
    (omega arith, refl, refl, refl, refl, refl, groups_start p64 c.args.per (tile_of c.args.per starts) (elements p64 c.args.frac_bits c.args.gradient.now) _ c.args.results.now z.ensures, after_none starts, (omega arith, norm_start c.args.frac_bits (words_of c.none-norm.result) c.args.gradient.now))

pub draw_tile-requires : goal.draw_tile-requires
draw_tile-requires c =
    let l = c.loop-j in
    let z = c.zero_row in
    let f = fits c.before.before.before.before in
    let rows = c.requires.block_rows.0 in
    record {
      count_bound = (omega (arith, z.auto.row, rows.0), (f.few, roomy (length c.args.results.now) _ _ _ _ z.auto.row rows.0 f.few l.invariant.2 rows.1.1));
      count_in_bounds = (omega (arith, z.auto.row, rows.0, l.invariant.1, rows.1.0), rw l.invariant.7 (all_ready l.j (states_of (length z.new.row) c.args.states.now) (subst (λ (T : ℕ). Ready (states_of T c.args.states.now)) (sym z.auto.row) c.requires.ready)));
    }

pub add_block-norm-requires : goal.add_block-norm-requires
add_block-norm-requires c =
    let l = c.loop-j in
    let z = c.zero_row in
    let d = c.draw_tile in
    let none = c.none-norm in
    let r = c.group_from-group.result in
    let xs = c.args.gradient.now in
    let f = c.args.frac_bits in
    let per = c.args.per in
    let rows = c.requires.block_rows in
    let T : length l.results ≡ length c.args.results.now = l.invariant.5 ∙ z.auto.row in
    let long = part_long r.first r.last xs (fits c.before.before.before.before.before.before.before.before.before.before.before.before.before).in_order (fits c.before.before.before.before.before.before.before.before.before.before.before.before.before).coordinates in
    let on : l.j ≤ r.end = omega (arith, (fits c.before.before.before.before.before.before.before.before.before.before.before.before.before).goes_on) in
    let short : per < 65536 = omega (arith, c.requires.per_bound.0) in
    record {
      usable = usable_take floor_limit64 f (r.last - r.first) (drop r.first xs) (usable_drop floor_limit64 f r.first xs c.requires.usable.0);
      scale_value = c.requires.usable.1;
      per_in_bounds = (roomy (length c.args.results.now) _ _ _ _ T rows.0.0 (fits c.before.before.before.before.before.before.before.before.before.before.before.before.before).few (d.auto.buffer ∙ l.invariant.2) rows.0.1.1, (rw long (fits c.before.before.before.before.before.before.before.before.before.before.before.before.before).few_coordinates, omega (arith, (fits c.before.before.before.before.before.before.before.before.before.before.before.before.before).few)));
      spare_rows = (omega (arith, l.invariant.3, rows.1.0), omega (arith, l.invariant.4, rows.1.1));
      below = (groups_below p64 per _ (elements p64 f xs) l.results l.j _ (lit< tt) l.invariant.6, top_fits l.norm.top none.result.top l.j r.end (4 * (r.end - l.j)) _ per l.invariant.8.0 on (fits c.before.before.before.before.before.before.before.before.before.before.before.before.before).inside (none_room none.result per none.ensures short) refl (le_refl _));
    }

pub loop-j-preserved : goal.loop-j-preserved
loop-j-preserved c =
    let l = c.loop-j in
    let z = c.zero_row in
    let d = c.draw_tile in
    let a = c.add_block-norm in
    let none = c.none-norm in
    let r = c.group_from-group.result in
    let xs = c.args.gradient.now in
    let f = c.args.frac_bits in
    let per = c.args.per in
    let j = l.j in
    let n = r.end - j in
    let K = length z.new.row in
    let starts = states_of K c.args.states.now in
    let h : (j ≤ r.end) × (r.end ≤ per) = (omega (arith, fits c.before.before.before.before.before.before.before.before.before.before.before.before.before.before.before.before.before.before.before.before), (fits c.before.before.before.before.before.before.before.before.before.before.before.before.before.before.before.before.before.before.before.before).inside) in
    let further : 4 * j ≤ 4 * r.end = omega (arith, h) in
    let on : j + n ≡ r.end = omega (arith, h) in
    let within : j + n ≤ per = omega (arith, h) in
    let cut = group_cut j 128 per xs r c.loop-j-test.true c.group_from-group.ensures in
    let part = elements_cut p64 f (4 * j) (4 * r.end) xs _ cut in
    let added = sides_added p64 per j n _ within (K * n) starts l.results _ (l.invariant.5 ∙ sym (length_states K c.args.states.now)) (d.ensures.buffer_after ∙ ap (tile_of n) l.invariant.7) in (
      (fits c.before.before.before.before.before.before.before.before.before.before.before.before.before.before.before.before.before.before.before.before).inside,
      d.auto.states ∙ l.invariant.1,
      d.auto.buffer ∙ l.invariant.2,
      a.auto.row ∙ l.invariant.3,
      a.auto.spare ∙ l.invariant.4,
      a.auto.results ∙ l.invariant.5,
      groups_next p64 per (tile_of per starts) (elements p64 f xs) l.results j r.end n _ _ _ (lit< tt) h refl part l.invariant.6 (a.ensures.results_after ∙ added),
      d.ensures.states_after ∙ ap (all_after n) l.invariant.7 ∙ after_more j n starts ∙ ap (λ (k : ℕ). all_after k starts) on,
      (top_grown l.norm.top a.result.top none.result.top j r.end (4 * n) l.invariant.8.0 a.ensures.result_value.1 h.0 (le_refl _), norm_next f (words_of none.result) (words_of l.norm) (words_of a.result) (4 * j) (4 * r.end) xs _ further cut l.invariant.8.1 a.ensures.result_value.0),
    )

pub returns : goal.returns
returns c =
    let l = c.loop-j in
    let z = c.zero_row in
    let none = c.none-norm in
    let f = c.args.frac_bits in
    let per = c.args.per in
    let ws = c.args.states.now in
    let xs = elements p64 f c.args.gradient.now in
    let few = c.requires.per_bound.1 in
    let h : length xs ≤ 4 * per = rw (length_elements p64 f c.args.gradient.now) few in
    let end : l.j ≡ per = omega (arith, c.loop-j-test.false, l.invariant.0) in
    record {
      result_value = none_more none.result _ _ none.ensures (norm_end f (words_of none.result) (words_of l.norm) l.j per c.args.gradient.now c.loop-j-test.false few l.invariant.8.1);
      results_after = groups_end p64 per _ xs l.results l.j _ c.loop-j-test.false h l.invariant.6 ∙ ap (λ (T : ℕ). tests_of p64 per T (tile_of per (states_of T ws)) xs) z.auto.row;
      states_after = subst (λ (T : ℕ). states_of T l.states ≡ all_after per (states_of T ws)) z.auto.row (l.invariant.7 ∙ ap (λ (k : ℕ). all_after k (states_of (length z.new.row) ws)) end);
    }
