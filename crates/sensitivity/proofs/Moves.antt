-- How far one report moves the sums of floors, and the doubles that stand for them. Assumes nothing.
use mathlib.Core.Path.{◌≡◌, refl, sym, ap, subst, ◌∙◌}
use mathlib.Core.Logic.{∥∥₁_elim}
use mathlib.Core.List.Perm
use mathlib.Core.List.{List, [], ◌∷◌, Perm, Permᴰ}
use Prim.Native.Nat.{ℕ, zero, suc, ◌+◌, ◌-◌, ◌*◌, ◌/◌, ◌^◌, ◌≤◌, ◌<◌}
use native.Mathlib.Nat.{le_trans, le_of_eq, zero-mul, zero-div}
use native.Mathlib.Omega.{arith}
use lib.Dec.{lit≤}
use lib.IntN.{ℤ, pos, neg_ℤ, nat_abs, ℤ_set, ◌+ℤ◌, ◌-ℤ◌, +ℤ_assoc, +ℤ_comm, neg_ℤ-+ℤ, +ℤ-neg_ℤ_cancel, -ℤ-+ℤ_cancel}
use lib.ListN.{length, get_or}
use lib.Ieee.{Float}
use Rattle.rules.specs.Rules.{accepted}
use Rattle.rules.proofs.Chain.{none}
use Rattle.doubles.specs.Doubles.{floor_div, floor_of, plus_zero}
use Rattle.pine.specs.declared.PineParam.{PineParam}
use Rattle.pine.specs.Param.{Field, Field64, param_answer}
use Rattle.pine.specs.Record.{sq_norm_bound_of}
use Rattle.pine.proofs.Limits.{limits}
use Rattle.flp.specs.Encode.{true_sq_norm_of}
use Rattle.correctness.specs.Tally.{Each}
use Rattle.correctness.specs.Correctness.{sumℤ, nearest_over, Report, floor_at, floors_sum, Decodes, Correctness}
use Rattle.correctness.proofs.Correctness.{correctness_64}
use Rattle.sensitivity.specs.Sensitivity.{square, over_all, Short, Exactly, Replaced, Removed, squared_distance, Summed, unsharded, decoded_at, Exact, Close, MovedSums, MovedDoubles}
use Rattle.sensitivity.proofs.Distance.{triangle_sum, triangle, square_of_difference, root, nearest_exactly, nearest_within}

-- ---- sums of whole numbers

permuted : {xs ys : List ℤ} → Permᴰ xs ys → sumℤ xs ≡ sumℤ ys
unfolding sumℤ
permuted Permᴰ.nil = refl
permuted (Permᴰ.cons e d) = λ i. e i +ℤ permuted d i
permuted (Permᴰ.swap {a = a} {b = b} {l = l} e f) =
    sym (+ℤ_assoc a b (sumℤ l)) ∙ ap (λ (z : ℤ). z +ℤ sumℤ l) (+ℤ_comm a b) ∙ +ℤ_assoc b a (sumℤ l) ∙ (λ i. f i +ℤ (e i +ℤ sumℤ l))
permuted (Permᴰ.trans d e) = permuted d ∙ permuted e

sum_perm : {xs ys : List ℤ} → Perm xs ys → sumℤ xs ≡ sumℤ ys
sum_perm q = ∥∥₁_elim q (ℤ_set _ _) (λ d. permuted d)

-- what is added to both goes
common : (x y c : ℤ) → (x +ℤ c) -ℤ (y +ℤ c) ≡ x -ℤ y
common x y c = +ℤ_assoc x c (neg_ℤ (y +ℤ c)) ∙ ap (λ (z : ℤ). x +ℤ z) (ap (λ (z : ℤ). c +ℤ z) (neg_ℤ-+ℤ y c) ∙ +ℤ_comm c (neg_ℤ y +ℤ neg_ℤ c) ∙ -ℤ-+ℤ_cancel (neg_ℤ y) c)

-- ---- sums over the coordinates

over_bounded : (d : ℕ) (g h k : ℕ → ℕ) → ((j : ℕ) → g j ≤ 2 * h j + 2 * k j) → over_all d g ≤ 2 * over_all d h + 2 * over_all d k
over_bounded zero g h k f = omega arith
over_bounded (suc d) g h k f = omega (arith, f 0, over_bounded d (λ j. g (suc j)) (λ j. h (suc j)) (λ j. k (suc j)) (λ j. f (suc j)))

over_same : (d : ℕ) (g h : ℕ → ℕ) → ((j : ℕ) → g j ≡ h j) → over_all d g ≤ over_all d h
over_same zero g h f = omega arith
over_same (suc d) g h f = omega (arith, f 0, over_same d (λ j. g (suc j)) (λ j. h (suc j)) (λ j. f (suc j)))

one_of : (d : ℕ) (g : ℕ → ℕ) (j : ℕ) → j < d → g j ≤ over_all d g
one_of zero g j h = absurd (omega arith)
one_of (suc d) g zero h = omega arith
one_of (suc d) g (suc j) h = omega (arith, one_of d (λ j. g (suc j)) j (omega arith))

-- +0 has the floor 0
zero_floor : (f : ℕ) → floor_of plus_zero f ≡ pos 0
unfolding floor_of floor_div
zero_floor f = ap pos (simp (zero-mul, zero-div))

no_coordinates : (d f : ℕ) → over_all d (λ j. square (floor_of (get_or [] j plus_zero) f)) ≤ 0
no_coordinates zero f = omega arith
no_coordinates (suc d) f = omega (arith, ap square (zero_floor f), no_coordinates d f)

-- the squares of the floors by coordinate are at most the true squared length
by_coordinate : (d f : ℕ) (xs : List Float) → over_all d (λ j. square (floor_of (get_or xs j plus_zero) f)) ≤ true_sq_norm_of f xs
unfolding true_sq_norm_of
by_coordinate d f [] = no_coordinates d f
by_coordinate zero f (x ∷ xs) = omega arith
by_coordinate (suc d) f (x ∷ xs) = omega (arith, by_coordinate d f xs)

module _ (F : Field) (i : PineParam) where
  abbrev d : ℕ
  d = i.dimension

  -- ---- a short report: its floors' squares total at most B, so each floor is at most n in size

  module _ (r : Report F i) (s : Short i r.gradient) where
    short_total : over_all d (λ j. square (floor_at F i j r)) ≤ sq_norm_bound_of i
    short_total = le_trans (by_coordinate d i.frac_bits r.gradient) s

    short_floor : (j : ℕ) → j < d → nat_abs (floor_at F i j r) ≤ i.norm_bound
    unfolding sq_norm_bound_of
    short_floor j h = root (nat_abs (floor_at F i j r)) i.norm_bound (le_trans (one_of d (λ j. square (floor_at F i j r)) j h) short_total)

  -- ---- the sum of a coordinate over short reports

  short_sum : (reports : List (Report F i)) → Each (λ r. Short i r.gradient) reports → (j : ℕ) → j < d → nat_abs (floors_sum F i j reports) ≤ length reports * i.norm_bound
  unfolding sumℤ
  short_sum [] s j h = omega arith
  short_sum (r ∷ rs) s j h = more _ _ _ (length rs) i.norm_bound (triangle_sum (floor_at F i j r) (floors_sum F i j rs)) (short_floor r s.0 j h) (short_sum rs s.1 j h)
    where
      more : (a b c m n : ℕ) → a ≤ b + c → b ≤ n → c ≤ m * n → a ≤ suc m * n
      more a b c m n h k l = omega arith

  -- ---- the differences of the sums of floors

  module _ (xs ys : List (Report F i)) where
    replaced_by : (q : Replaced F i xs ys) (j : ℕ) → floors_sum F i j xs -ℤ floors_sum F i j ys ≡ floor_at F i j q.one -ℤ floor_at F i j q.other
    unfolding sumℤ
    replaced_by q j =
        (λ k. sum_perm (Perm.map (floor_at F i j) q.first) k -ℤ sum_perm (Perm.map (floor_at F i j) q.second) k)
        ∙ common (floor_at F i j q.one) (floor_at F i j q.other) (floors_sum F i j q.both)

    removed_by : (q : Removed F i xs ys) (j : ℕ) → floors_sum F i j xs -ℤ floors_sum F i j ys ≡ floor_at F i j q.one
    unfolding sumℤ
    removed_by q j = ap (λ (z : ℤ). z -ℤ floors_sum F i j ys) (sum_perm (Perm.map (floor_at F i j) q.first)) ∙ +ℤ-neg_ℤ_cancel (floor_at F i j q.one) (floors_sum F i j ys)

    replaced_total : Replaced F i xs ys → squared_distance F i xs ys ≤ 4 * sq_norm_bound_of i
    replaced_total q =
        let r = q.one in
        let t = q.other in
        let g : (j : ℕ) → square (floors_sum F i j xs -ℤ floors_sum F i j ys) ≤ 2 * square (floor_at F i j r) + 2 * square (floor_at F i j t) =
        λ j. le_trans (le_of_eq (ap square (replaced_by q j))) (square_of_difference (floor_at F i j r) (floor_at F i j t)) in
        four _ _ _ (sq_norm_bound_of i) (over_bounded d _ (λ j. square (floor_at F i j r)) (λ j. square (floor_at F i j t)) g) (short_total r q.one_short) (short_total t q.other_short)
      where
        four : (a b c m : ℕ) → a ≤ 2 * b + 2 * c → b ≤ m → c ≤ m → a ≤ 4 * m
        four a b c m h k l = omega arith

    removed_total : Removed F i xs ys → squared_distance F i xs ys ≤ sq_norm_bound_of i
    removed_total q = le_trans (over_same d _ (λ j. square (floor_at F i j q.one)) (λ j. ap square (removed_by q j))) (short_total q.one q.one_short)

    replaced_one : Replaced F i xs ys → (j : ℕ) → j < d → nat_abs (floors_sum F i j xs -ℤ floors_sum F i j ys) ≤ 2 * i.norm_bound
    replaced_one q j h =
        two _ _ _ i.norm_bound (le_trans (le_of_eq (ap nat_abs (replaced_by q j))) (triangle (floor_at F i j q.one) (floor_at F i j q.other)))
        (short_floor q.one q.one_short j h) (short_floor q.other q.other_short j h)
      where
        two : (a b c m : ℕ) → a ≤ b + c → b ≤ m → c ≤ m → a ≤ 2 * m
        two a b c m h k l = omega arith

    removed_one : Removed F i xs ys → (j : ℕ) → j < d → nat_abs (floors_sum F i j xs -ℤ floors_sum F i j ys) ≤ i.norm_bound
    removed_one q j h = le_trans (le_of_eq (ap nat_abs (removed_by q j))) (short_floor q.one q.one_short j h)

pub moved_sums : MovedSums
moved_sums = record { replaced = replaced_total; removed = removed_total; small = short_sum }

-- ---- the doubles, over a field of which the main theorem holds and that has room for sums within 2 ^ 53 of zero

module _ (F : Field) (holds : Correctness F) (room : 2 ^ 53 ≤ (F.p - 1) / 2) (i : PineParam) (ok : param_answer F i ≡ accepted) where
  fraction : i.frac_bits ≤ 30
  fraction = (limits F i (none ok)).fraction

  module _ (reports : List (Report F i)) (s : Summed F i reports) where
    decodes : Decodes F i reports (unsharded F i s)
    decodes = (holds i ok s.start s.begun s.calls reports).decoded s.left s.right s.joined s.decodable s.found s.long

    nearest : (j : ℕ) → j < i.dimension → nat_abs (floors_sum F i j reports) ≤ 2 ^ 53 → decoded_at F i j s ≡ nearest_over i.frac_bits (floors_sum F i j reports)
    nearest j h w = decodes.at j h (le_trans w room)

    exact : Exact F i reports s
    exact = record {
      accepts = decodes.accepts;
      long = decodes.long;
      at = λ j h w. subst (λ (x : Float). Exactly x (floors_sum F i j reports) (2 ^ i.frac_bits)) (sym (nearest j h w)) (nearest_exactly i.frac_bits (floors_sum F i j reports) fraction w);
    }

  close : (xs ys : List (Report F i)) (a : Summed F i xs) (b : Summed F i ys) (most : ℕ) → ((j : ℕ) → j < i.dimension → nat_abs (floors_sum F i j xs -ℤ floors_sum F i j ys) ≤ most) → Close F i xs ys a b most
  close xs ys a b most near j h k l =
      rw (nearest xs a j h k, nearest ys b j h l) (nearest_within i.frac_bits (floors_sum F i j xs) (floors_sum F i j ys) most fraction k l (near j h))

pub moved_doubles : (F : Field) → Correctness F → 2 ^ 53 ≤ (F.p - 1) / 2 → MovedDoubles F
moved_doubles F holds room = record {
  exact = exact F holds room;
  replaced = λ i ok xs ys q a b. close F holds room i ok xs ys a b (2 * i.norm_bound) (replaced_one F i xs ys q);
  removed = λ i ok xs ys q a b. close F holds room i ok xs ys a b i.norm_bound (removed_one F i xs ys q);
}

pub moved_doubles_64 : MovedDoubles Field64
moved_doubles_64 = moved_doubles Field64 correctness_64 (lit≤ tt)
