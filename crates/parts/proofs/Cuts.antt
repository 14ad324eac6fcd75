-- The parts of a full vector as the derived record says where they lie: inside the row, and those of the definitions. Assumes nothing.
use mathlib.Core.Path.{◌≡◌, ap, ◌∙◌}
use mathlib.Core.List.{List}
use Prim.Native.Nat.{ℕ, ◌+◌, ◌≤◌}
use native.Mathlib.Omega.{arith}
use lib.ListN.{length, take, drop, length-drop}
use lib.Seq.{length-take-le}
use Rattle.pine.specs.declared.PineParam.{PineParam}
use Rattle.pine.specs.declared.record.Pine.{Pine}
use Rattle.pine.specs.Record.{bit_checked_len_of, encoded_input_len_of, input_len_of, pine_of}
use Rattle.rows.specs.Rows.{Below}
use Rattle.rows.proofs.Elements.{below_take, below_drop}
use Rattle.pine.specs.Param.{Field}
use Rattle.flp.specs.Circuits.{gradient_part, checked_part, results_part, FullVector}
use Rattle.parts.specs.Places.{gradient_in, checked_in, results_in}

-- ---- each ends where the vector does, or before

module _ (i : PineParam) where
  pub gradient_ends : 0 + i.dimension ≤ input_len_of i
  unfolding input_len_of encoded_input_len_of
  gradient_ends = omega arith

  pub checked_ends : i.dimension + bit_checked_len_of i ≤ input_len_of i
  unfolding input_len_of encoded_input_len_of
  checked_ends = omega arith

  pub results_ends : encoded_input_len_of i + i.num_wr_tests ≤ input_len_of i
  unfolding input_len_of
  results_ends = omega arith

-- ---- n elements from s on

cut_length : (s n : ℕ) (xs : List ℕ) → s + n ≤ length xs → length (take n (drop s xs)) ≡ n
cut_length s n xs h =
    let l : n ≤ length (drop s xs) = rw (length-drop s xs) (omega arith) in
    length-take-le n (drop s xs) l

cut_below : (p s n : ℕ) (xs : List ℕ) → Below p xs → Below p (take n (drop s xs))
cut_below p s n xs h = below_take p n (drop s xs) (below_drop p s xs h)

-- ---- by the record, over any field

module _ {F : Field} (i : PineParam) (full : List ℕ) (v : FullVector F i full) (r : Pine) (e : r ≡ pine_of i) where
  pub gradient_inside : r.dimension ≤ length full
  unfolding pine_of
  gradient_inside = rw (e, v.long) (omega (arith, gradient_ends i))

  pub checked_inside : r.dimension + r.bit_checked_len ≤ length full
  unfolding pine_of
  checked_inside = rw (e, v.long) (checked_ends i)

  pub results_inside : r.encoded_input_len + r.num_wr_tests ≤ length full
  unfolding pine_of
  results_inside = rw (e, v.long) (results_ends i)

  -- what the code has cut out

  module _ (xs : List ℕ) (h : xs ≡ gradient_in r full) where
    pub gradient_length : length xs ≡ r.dimension
    gradient_length = ap length h ∙ length-take-le r.dimension full gradient_inside

    pub gradient_is : xs ≡ gradient_part i full
    unfolding gradient_part pine_of
    gradient_is = h ∙ rw e

  module _ (xs : List ℕ) (h : xs ≡ checked_in r full) where
    pub checked_length : length xs ≡ r.bit_checked_len
    checked_length = ap length h ∙ cut_length r.dimension r.bit_checked_len full checked_inside

    pub checked_below : Below F.p xs
    checked_below = rw h (cut_below F.p r.dimension r.bit_checked_len full v.below)

    pub checked_is : xs ≡ checked_part i full
    unfolding checked_part pine_of
    checked_is = h ∙ rw e

  module _ (xs : List ℕ) (h : xs ≡ results_in r full) where
    pub results_length : length xs ≡ r.num_wr_tests
    results_length = ap length h ∙ cut_length r.encoded_input_len r.num_wr_tests full results_inside

    pub results_below : Below F.p xs
    results_below = rw h (cut_below F.p r.encoded_input_len r.num_wr_tests full v.below)

    pub results_is : xs ≡ results_part i full
    unfolding results_part pine_of
    results_is = h ∙ rw e
