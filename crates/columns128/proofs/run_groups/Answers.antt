-- `columns128::run_groups` meets its contract. Assumes nothing.
use mathlib.Core.Path.{◌≡◌, refl, sym, ap, ◌∙◌}
use mathlib.Core.List.{List}
use Prim.Native.Nat.{ℕ, ◌+◌, ◌-◌, ◌*◌, ◌/◌, ◌≤◌, ◌<◌, min}
use native.Mathlib.Omega.{arith}
use lib.Seq.{length_front}
use lib.ListN.{length, take, drop}
use Rattle.field128.specs.Field128.{elements_of}
use Rattle.field128.proofs.Pairs.{elements_length}
use Rattle.groups.specs.declared.Group.{Group}
use Rattle.groups.specs.Groups.{add_group, group_from}
use Rattle.groups.proofs.Swapped.{Fits, group_fits, row_long}
use Rattle.limbs.specs.Limbs.{limbs, modulus_for}
use Rattle.limbs.proofs.Words.{length_limbs}
use Rattle.limbs.proofs.Summed.{Summed, summed_start, summed_below, summed_next, summed_end}
use Rattle.columns128.proofs.Sums.{part_long, part_limbs, positive, below_by, added_by, tests_by, fits_by}
use Rattle.columns128.proofs.run_groups.Goals as goal

-- the group is one of the elements
taken : (j width per : ℕ) (words : List ℕ) (g : Group) → g ≡ group_from j width per (length words / 2) → g ≡ group_from j width per (length (elements_of words))
taken j width per words g e = e ∙ ap (λ (n : ℕ). group_from j width per n) (sym (elements_length words))

fits : (j width per : ℕ) (words : List ℕ) (g : Group) → j < per → 0 < width → g ≡ group_from j width per (length words / 2) → Fits j width per (length (elements_of words)) g
fits j width per words g h some e = group_fits j width per _ g h some (taken j width per words g e)

-- sums with the group added; T is their number as it is written there
summed_group : (k j width per T T₀ : ℕ) (words stream d d' : List ℕ) (g : Group) → j < per → 0 < width → g ≡ group_from j width per (length words / 2) → length d' ≡ length d
    → d' ≡ add_group (modulus_for T) per j (g.end - j) (limbs k (elements_of (take (2 * g.last - 2 * g.first) (drop (2 * g.first) words)))) stream d
    → T ≡ T₀ → Summed (modulus_for T₀) per stream (limbs k (elements_of words)) T₀ j d → Summed (modulus_for T₀) per stream (limbs k (elements_of words)) T₀ (min (j + width) per) d'
summed_group k j width per T T₀ words stream d d' g h some e l a et w =
    let f = fits j width per words g h some e in
    let next : min (j + width) per ≡ g.end = sym (ap (λ (r : Group). r.end) e) in
    rw next (summed_next _ per stream (limbs k (elements_of words)) (positive T₀) T₀ j g.end _ d d' f.goes_on f.inside (part_limbs k j width per words g h (taken j width per words g e)) l (added_by _ _ per j (g.end - j) _ stream d d' (ap modulus_for et) a) w)

pub loop-j-init : goal.loop-j-init
loop-j-init c =
    let z = c.zero_row in
    let T = sym z.auto.row in
    let words = c.args.gradient.now in
    let xs = elements_of words in (
      omega arith,
      (refl, refl),
      (
        summed_start _ c.args.per c.args.stream.now (limbs 0 xs) _ c.args.low.now _ T z.ensures,
        (
          summed_start _ c.args.per c.args.stream.now (limbs 1 xs) _ c.args.middle.now _ (c.requires.middle_len.0 ∙ T) c.zero_row-2.ensures,
          summed_start _ c.args.per c.args.stream.now (limbs 2 xs) _ c.args.high.now _ (c.requires.middle_len.1 ∙ T) c.zero_row-3.ensures,
        ),
      ),
    )

pub add_limbs-requires-clause-row_len : goal.add_limbs-requires-clause-row_len
add_limbs-requires-clause-row_len c =
    let f = fits c.loop-j.j c.args.width c.args.per c.args.gradient.now _ (omega arith) c.requires.width_nonzero.0.0 c.group_from-group.ensures in
    let r = c.group_from-group.result in
    row_long (r.last - r.first) c.loop-j.row (omega (arith, f, c.loop-j.invariant.1.0, c.requires.width_nonzero.1.0)) ∙ sym (part_long r.first r.last c.args.gradient.now f.in_order f.coordinates)

pub add_limbs-requires-clause-part_len_bound : goal.add_limbs-requires-clause-part_len_bound
add_limbs-requires-clause-part_len_bound c =
    let f = fits c.loop-j.j c.args.width c.args.per c.args.gradient.now _ (omega arith) c.requires.width_nonzero.0.0 c.group_from-group.ensures in
    let r = c.group_from-group.result in
    let T = c.loop-j.invariant.2.0.0 ∙ c.zero_row.auto.row in
    let fit = fits_by _ _ (r.end - c.loop-j.j) c.args.width _ _ T c.loop-j.invariant.1.1 f.few c.requires.width_nonzero.0.1 c.requires.width_nonzero.1.1 in
    (rw (part_long r.first r.last c.args.gradient.now f.in_order f.coordinates) f.few_coordinates, fit.1)

pub add_limbs-requires-clause-below : goal.add_limbs-requires-clause-below
add_limbs-requires-clause-below c =
    let xs = elements_of c.args.gradient.now in
    let sums = c.loop-j.invariant.2 in
    let p = positive (length c.zero_row.new.row) in
    let m = ap modulus_for (sym sums.0.0) in (
      below_by _ _ c.loop-j.low m (summed_below _ c.args.per c.args.stream.now (limbs 0 xs) p _ _ c.loop-j.low sums.0),
      (below_by _ _ c.loop-j.middle m (summed_below _ c.args.per c.args.stream.now (limbs 1 xs) p _ _ c.loop-j.middle sums.1.0), below_by _ _ c.loop-j.high m (summed_below _ c.args.per c.args.stream.now (limbs 2 xs) p _ _ c.loop-j.high sums.1.1)),
    )

pub loop-j-preserved : goal.loop-j-preserved
loop-j-preserved c =
    let a = c.add_limbs in
    let r = c.group_from-group.result in
    let sums = c.loop-j.invariant.2 in
    let next : min (c.loop-j.j + c.args.width) c.args.per ≡ c.loop-j.j + c.args.width = omega arith in (
      omega arith,
      (length_front c.loop-j.row a.new.row (r.last - r.first - 0) a.auto.row ∙ c.loop-j.invariant.1.0, a.auto.spare ∙ c.loop-j.invariant.1.1),
      (
        rw next at (summed_group 0 c.loop-j.j c.args.width c.args.per _ _ c.args.gradient.now c.args.stream.now c.loop-j.low a.new.low c.group_from-group.result (omega arith) c.requires.width_nonzero.0.0 c.group_from-group.ensures a.auto.low a.ensures.low_after sums.0.0 sums.0),
        (
          rw next at (summed_group 1 c.loop-j.j c.args.width c.args.per _ _ c.args.gradient.now c.args.stream.now c.loop-j.middle a.new.middle c.group_from-group.result (omega arith) c.requires.width_nonzero.0.0 c.group_from-group.ensures a.auto.middle a.ensures.middle_after sums.0.0 sums.1.0),
          rw next at (summed_group 2 c.loop-j.j c.args.width c.args.per _ _ c.args.gradient.now c.args.stream.now c.loop-j.high a.new.high c.group_from-group.result (omega arith) c.requires.width_nonzero.0.0 c.group_from-group.ensures a.auto.high a.ensures.high_after sums.0.0 sums.1.1),
        ),
      ),
    )

-- after the last group
pub returns-2 : goal.returns-2
returns-2 c =
    let a = c.add_limbs in
    let n = c.zero_row.auto.row in
    let per = c.args.per in
    let s = c.args.stream.now in
    let xs = elements_of c.args.gradient.now in
    let sums = c.loop-j.invariant.2 in
    let m = ap modulus_for n in
    let out : per ≤ min (c.loop-j.j + c.args.width) per = omega arith in
    let few : (k : ℕ) → length (limbs k xs) ≤ 4 * per = λ k. rw (length_limbs k xs) c.requires.per_in_bounds.1.0 in
    record {
      low_after = tests_by _ _ per _ s (limbs 0 xs) _ m (summed_end _ per s (limbs 0 xs) _ _ _ a.new.low n out (few 0) (summed_group 0 c.loop-j.j c.args.width c.args.per _ _ c.args.gradient.now c.args.stream.now c.loop-j.low a.new.low c.group_from-group.result (omega arith) c.requires.width_nonzero.0.0 c.group_from-group.ensures a.auto.low a.ensures.low_after sums.0.0 sums.0));
      middle_after = tests_by _ _ per _ s (limbs 1 xs) _ m (summed_end _ per s (limbs 1 xs) _ _ _ a.new.middle n out (few 1) (summed_group 1 c.loop-j.j c.args.width c.args.per _ _ c.args.gradient.now c.args.stream.now c.loop-j.middle a.new.middle c.group_from-group.result (omega arith) c.requires.width_nonzero.0.0 c.group_from-group.ensures a.auto.middle a.ensures.middle_after sums.0.0 sums.1.0));
      high_after = tests_by _ _ per _ s (limbs 2 xs) _ m (summed_end _ per s (limbs 2 xs) _ _ _ a.new.high n out (few 2) (summed_group 2 c.loop-j.j c.args.width c.args.per _ _ c.args.gradient.now c.args.stream.now c.loop-j.high a.new.high c.group_from-group.result (omega arith) c.requires.width_nonzero.0.0 c.group_from-group.ensures a.auto.high a.ensures.high_after sums.0.0 sums.1.1));
    }
