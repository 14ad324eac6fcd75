-- `file_add::write_added` meets its contract. Assumes nothing.
use mathlib.Core.Path.{◌≡◌, ap, ◌∙◌}
use mathlib.Core.List.{List}
use Prim.Native.Nat.{ℕ, ◌+◌, ◌-◌, ◌*◌, ◌≤◌}
use native.Mathlib.Omega.{arith}
use lib.ListN.{length, take, drop, length-append, length-drop}
use lib.Seq.{length-take-le}
use Rattle.field64.specs.Field.{p64}
use Rattle.rows.specs.Rows.{Below}
use Rattle.rows.proofs.Elements.{below_all}
use Rattle.octets.specs.Octets.{elements_in}
use Rattle.octets.proofs.Bytes.{length_to_bytes}
use Rattle.file_add.specs.Steps.{contents_with}
use Rattle.file_add.proofs.Ready.{few, old_long, index_small, order, C_long, R_long, products, small_products, part_ok, added_written}
use Rattle.file_add.proofs.write_added.Lts as lts
use Rattle.file_add.proofs.write_added.Reads as reads
use Rattle.file_add.proofs.write_added.Tie as tie
use Rattle.file_add.proofs.write_added.Goals as goal

abbrev After-after-next : Type 0
After-after-next = lts.After-after tie.the-claims reads.Pre reads.Post tie.handed_clauses

abbrev Start : Type 0
Start = lts.Start tie.the-claims reads.Pre reads.Post tie.handed_clauses

-- what is known once the place is
module _ (a : After-after-next) where
  abbrev s : Start
  s = a.before.before.before.before.before.before.before

  abbrev n : ℕ
  n = a.count_of-count.result

  abbrev i : ℕ
  i = a.place_in-place.result.index

  abbrev j : ℕ
  j = a.after-next.result

  abbrev d : ℕ
  d = s.args.dimension

  abbrev C : List ℕ
  C = take (6 + 12 * n - 6) (drop 6 s.args.old.now)

  abbrev R : List ℕ
  R = take (length s.args.old.now - (6 + 12 * n)) (drop (6 + 12 * n) s.args.old.now)

  known_long : length s.args.old.now ≡ 6 + n * (12 + 8 * d)
  known_long = old_long d s.args.key.now s.args.old.now s.args.share.now (length s.args.second.now) s.requires n a.count_of-count.ensures.0 _ a.place_in-place.ensures.0

  known_order : (i ≤ j) × (j ≤ n) × (j ≤ i + 1)
  known_order = order d s.args.key.now s.args.old.now s.args.share.now (length s.args.second.now) s.requires n a.count_of-count.ensures.0 _ a.place_in-place.ensures.0 j a.after-next.ensures

  known_C : length C ≡ 12 * n
  known_C = C_long d s.args.key.now s.args.old.now s.args.share.now (length s.args.second.now) s.requires n a.count_of-count.ensures.0 _ a.place_in-place.ensures.0 j a.after-next.ensures

  known_R : length R ≡ 8 * (d * n)
  known_R = R_long d s.args.key.now s.args.old.now s.args.share.now (length s.args.second.now) s.requires n a.count_of-count.ensures.0 _ a.place_in-place.ensures.0 j a.after-next.ensures

  known_products : (d * i ≤ d * j) × (d * j ≤ d * n) × (d * j ≤ d * i + d)
  known_products = products d s.args.key.now s.args.old.now s.args.share.now (length s.args.second.now) s.requires n a.count_of-count.ensures.0 _ a.place_in-place.ensures.0 j a.after-next.ensures

  known_small : d * n ≤ 65536 * 1024
  known_small = small_products d s.args.key.now s.args.old.now s.args.share.now (length s.args.second.now) s.requires n a.count_of-count.ensures.0 _ a.place_in-place.ensures.0 j a.after-next.ensures

  abbrev part : List ℕ
  part = take (8 * (d * j) - 8 * (d * i)) (drop (8 * (d * i)) R)

  known_part : (length part ≡ 0 → ⊥) → (length part ≡ 8 * length s.args.share.now) × Below p64 (elements_in (length s.args.share.now) part)
  known_part = part_ok d s.args.key.now s.args.old.now s.args.share.now (length s.args.second.now) s.requires n a.count_of-count.ensures.0 _ a.place_in-place.ensures.0 j a.after-next.ensures

  known_start : 6 + 12 * n ≤ length s.args.old.now
  known_start = omega (arith, known_long)

  contents_room : 6 + (12 * i + (12 + (length C - 12 * j))) ≤ length s.args.second.now
  contents_room = omega (arith, known_long, known_order, known_C, s.requires.second_long)

  bodies_room : (b : ℕ) → b ≡ 6 + length (contents_with C s.args.key.now (a.place_in-place.result.reports + 1) i j) → b + (8 * (d * i) + (8 * length s.args.share.now + (length R - 8 * (d * j)))) ≤ length s.args.second.now
  bodies_room b e =
      let t : length (take (12 * i) C) ≡ 12 * i = length-take-le (12 * i) C (omega (arith, known_C, known_order)) in
      let l : length (contents_with C s.args.key.now (a.place_in-place.result.reports + 1) i j) ≡ 12 * i + ((8 + 4) + (12 * n - 12 * j)) = simp (length-append, length_to_bytes, length-drop, t, known_C, s.requires.key_long) in
      omega (arith, e, l, known_long, known_order, known_products, known_R, s.requires.second_long, s.requires.share_long)

pub after-next-requires : goal.after-next-requires
after-next-requires c =
    omega (arith, few c.args.dimension c.args.key.now c.args.old.now c.args.share.now (length c.args.second.now) c.requires c.count_of-count.result c.count_of-count.ensures.0 _ c.place_in-place.ensures.0, index_small c.args.dimension c.args.key.now c.args.old.now c.args.share.now (length c.args.second.now) c.requires c.count_of-count.result c.count_of-count.ensures.0 _ c.place_in-place.ensures.0)

pub slice_bounds-put_contents-end : goal.slice_bounds-put_contents-end
slice_bounds-put_contents-end c = omega (arith, known_start c.before.before.before.before.before.before)

pub put_contents-bodies_at-requires : goal.put_contents-bodies_at-requires
put_contents-bodies_at-requires c =
    let o = known_order c.before.before.before.before.before.before.before.before in
    record {
      index_le_next = (o.0, omega (arith, o, known_C c.before.before.before.before.before.before.before.before));
      key_len = ((s c.before.before.before.before.before.before.before.before).requires.key_long, omega (arith, contents_room c.before.before.before.before.before.before.before.before, c.put_header-at.ensures.1, c.put_header-at.auto.row));
    }

pub slice_bounds-put_bodies-count : goal.slice_bounds-put_bodies-count
slice_bounds-put_bodies-count c = known_start c.before.before.before.before.before.before.before.before.before.before.before.before

pub slice_bounds-put_bodies-start : goal.slice_bounds-put_bodies-start
slice_bounds-put_bodies-start c = omega (arith, known_start c.before.before.before.before.before.before.before.before.before.before.before.before)

pub overflow_mul-unit : goal.overflow_mul-unit
overflow_mul-unit c = omega (arith, known_small c.before.before.before.before.before.before.before.before.before.before.before.before.before, known_products c.before.before.before.before.before.before.before.before.before.before.before.before.before)

pub overflow_mul-unit-2 : goal.overflow_mul-unit-2
overflow_mul-unit-2 c = omega (arith, known_small c.before.before.before.before.before.before.before.before.before.before.before.before.before, known_products c.before.before.before.before.before.before.before.before.before.before.before.before.before)

pub overflow_mul-unit-3 : goal.overflow_mul-unit-3
overflow_mul-unit-3 c = omega (arith, known_small c.before.before.before.before.before.before.before.before.before.before.before.before.before, known_products c.before.before.before.before.before.before.before.before.before.before.before.before.before)

pub overflow_mul-unit-4 : goal.overflow_mul-unit-4
overflow_mul-unit-4 c = omega (arith, known_small c.before.before.before.before.before.before.before.before.before.before.before.before.before, known_products c.before.before.before.before.before.before.before.before.before.before.before.before.before)

pub put_bodies-requires : goal.put_bodies-requires
put_bodies-requires c =
    let q = known_products c.before.before.before.before.before.before.before.before.before.before.before.before.before in
    let w = c.put_contents-bodies_at.ensures.1 ∙ ap (λ (k : ℕ). k + length (contents_with (C c.before.before.before.before.before.before.before.before.before.before.before.before.before) (s c.before.before.before.before.before.before.before.before.before.before.before.before.before).args.key.now (c.place_in-place.result.reports + 1) (i c.before.before.before.before.before.before.before.before.before.before.before.before.before) (j c.before.before.before.before.before.before.before.before.before.before.before.before.before))) c.put_header-at.ensures.1 in
    record {
      from_le_to = (omega (arith, q), omega (arith, q, known_R c.before.before.before.before.before.before.before.before.before.before.before.before.before));
      to_in_bounds = (omega (arith, bodies_room c.before.before.before.before.before.before.before.before.before.before.before.before.before c.put_contents-bodies_at.result w, c.put_contents-bodies_at.auto.row, c.put_header-at.auto.row), (s c.before.before.before.before.before.before.before.before.before.before.before.before.before).requires.share_below);
      bodies_len = known_part c.before.before.before.before.before.before.before.before.before.before.before.before.before;
    }

pub returns : goal.returns
returns c =
    let old = below_all 256 (s c.before.before.before.before.before.before.before.before.before.before.before.before.before.before.before.before).args.old.now (λ k _. (c.shared_slice_known-2-1.given k).fits) in
    let key = below_all 256 (s c.before.before.before.before.before.before.before.before.before.before.before.before.before.before.before.before).args.key.now (λ k _. (c.shared_slice_known-1.given k).fits) in
    added_written (d c.before.before.before.before.before.before.before.before.before.before.before.before.before.before.before.before) (s c.before.before.before.before.before.before.before.before.before.before.before.before.before.before.before.before).args.key.now (s c.before.before.before.before.before.before.before.before.before.before.before.before.before.before.before.before).args.old.now (s c.before.before.before.before.before.before.before.before.before.before.before.before.before.before.before.before).args.share.now (length (s c.before.before.before.before.before.before.before.before.before.before.before.before.before.before.before.before).args.second.now) (s c.before.before.before.before.before.before.before.before.before.before.before.before.before.before.before.before).requires (n c.before.before.before.before.before.before.before.before.before.before.before.before.before.before.before.before) c.count_of-count.ensures.0 _ c.place_in-place.ensures.0 (j c.before.before.before.before.before.before.before.before.before.before.before.before.before.before.before.before) c.after-next.ensures old key
    (s c.before.before.before.before.before.before.before.before.before.before.before.before.before.before.before.before).args.second.now _ _ _ _ _ _ c.put_header-at.ensures.0 c.put_header-at.ensures.1 c.put_contents-bodies_at.ensures.0 c.put_contents-bodies_at.ensures.1 c.put_bodies.ensures.0 c.put_bodies.ensures.1
