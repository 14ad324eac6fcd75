-- The parts of an encoded measurement with its results, and the circuits there, for one share, over any modulus p. Assumes nothing.
use mathlib.Core.Path.{◌≡◌, sym, ap, ◌∙◌}
use mathlib.Core.List.{List, ◌++◌, map, append_assoc}
use Prim.Native.Nat.{ℕ, ◌+◌, ◌-◌, ◌*◌, ◌%◌, ◌^◌, ◌≤◌, ◌<◌}
use native.Mathlib.Nat.{lt_of_le_of_lt, le_of_eq, zero-add, mod-mod, zero-mod, mod-eq_of_lt, add-mod_right, le_of_lt}
use native.Mathlib.Omega.{arith}
use lib.ListN.{length, take, length-append}
use lib.Seq.{take_at, drop_at, take_all}
use Rattle.field64.specs.Field.{sub_mod}
use Rattle.field64.proofs.Modular.{sub_is}
use Rattle.field64.proofs.Sums.{evaluate_below}
use Rattle.pine.specs.declared.PineParam.{PineParam}
use Rattle.rows.specs.Rows.{Below}
use Rattle.pine.specs.Record.{sq_norm_bound_of, sq_norm_bits_of, wr_test_bound, wr_test_bits_of, bit_checked_len_of, encoded_input_len_of, input_len_of, bytes_per_test}
use Rattle.pine.proofs.Digits.{digits_above}
use Rattle.pine.proofs.Sizes.{bound_positive, bits_power}
use Rattle.rows.proofs.Elements.{below_append, below_more}
use Rattle.flp.specs.Bits.{bits, groups}
use Rattle.flp.specs.Encode.{sq_norm, count_in_range, written, test_bits, results_of, measurement_of}
use Rattle.flp.specs.Circuits.{gradient_part, checked_part, results_part, test_parts, norm_v, norm_u, valid_equal_value, WellFormed}
use Rattle.flp.proofs.Bits.{length_bits, bits_below, number_bits}
use Rattle.flp.proofs.Tests.{length_tests, tests_below}
use Rattle.flp.proofs.Circuits.{parts_of, test_bits_below, length_test_bits, groups_test_bits, term_n_zero, test_terms_zero, term_g_zero, written_below}

bound_fits : (i : PineParam) (v : ℕ) → v ≤ sq_norm_bound_of i → v < 2 ^ sq_norm_bits_of i
unfolding sq_norm_bits_of
bound_fits i v h = lt_of_le_of_lt h (digits_above (sq_norm_bound_of i))

-- a measurement's elements are below p
pub measurement_below : (p : ℕ) → 2 ≤ p → (i : PineParam) (s xs : List ℕ) → Below p xs → Below p (measurement_of p i s xs)
unfolding measurement_of
measurement_below p h i s xs f =
    let q = sq_norm_bits_of i in
    let v = sq_norm p xs in
    let u = sub_mod p (sq_norm_bound_of i) v in
    let ts = test_bits p (wr_test_bits_of i) (wr_test_bound i) i.num_wr_successes (results_of p i s xs) in
    let tests : Below 2 ts = test_bits_below p (wr_test_bits_of i) (wr_test_bound i) i.num_wr_successes (results_of p i s xs) in
    let checked : Below 2 (bits q v ++ (bits q u ++ ts)) = below_append 2 (bits q v) (bits q u ++ ts) (bits_below q v) (below_append 2 (bits q u) ts (bits_below q u) tests) in
    below_append p xs (bits q v ++ (bits q u ++ ts)) f (below_more 2 p h (bits q v ++ (bits q u ++ ts)) checked)

-- what the rules leave of an encoding, its elements being xs
pub record Sound (p : ℕ) (i : PineParam) (stream xs : List ℕ) : Type 0 where
  pub big : 1 < p
  pub room_norm : sq_norm_bound_of i < p
  pub room_test : 2 * wr_test_bound i ≤ p
  pub long : length xs ≡ i.dimension
  pub below : Below p xs
  pub norm : sq_norm p xs ≤ sq_norm_bound_of i
  pub enough : i.num_wr_successes ≤ count_in_range p (wr_test_bound i) (results_of p i stream xs)

module _ (p : ℕ) (i : PineParam) (stream xs : List ℕ) (h : Sound p i stream xs) where
  v : ℕ
  v = sq_norm p xs

  u : ℕ
  u = sub_mod p (sq_norm_bound_of i) v

  rs : List ℕ
  rs = results_of p i stream xs

  tb : List ℕ
  tb = test_bits p (wr_test_bits_of i) (wr_test_bound i) i.num_wr_successes rs

  checked : List ℕ
  checked = bits (sq_norm_bits_of i) v ++ (bits (sq_norm_bits_of i) u ++ tb)

  unfoldable pub full_of : List ℕ
  full_of = measurement_of p i stream xs ++ results_of p i stream xs

  length_results : length rs ≡ i.num_wr_tests
  unfolding rs results_of
  length_results = length_tests p _ _ stream xs

  length_checked : length checked ≡ bit_checked_len_of i
  unfolding checked tb bit_checked_len_of
  length_checked = simp (length-append, length_bits, length_test_bits, length_results) (omega arith)

  pub length_measurement : length (measurement_of p i stream xs) ≡ encoded_input_len_of i
  unfolding measurement_of encoded_input_len_of checked tb rs v u
  length_measurement = length-append xs checked ∙ omega (arith, h.long, length_checked)

  pub front_is : take i.dimension (measurement_of p i stream xs) ≡ xs
  unfolding measurement_of checked tb rs v u
  front_is = take_at xs checked i.dimension h.long

  full_is : full_of ≡ xs ++ (checked ++ rs)
  unfolding full_of measurement_of checked tb rs v u
  full_is = append_assoc xs checked rs

  gradient_is : gradient_part i full_of ≡ xs
  unfolding gradient_part
  gradient_is = rw full_is (take_at xs (checked ++ rs) i.dimension h.long)

  checked_is : checked_part i full_of ≡ checked
  unfolding checked_part
  checked_is = rw (full_is, drop_at xs (checked ++ rs) i.dimension h.long) (take_at checked rs (bit_checked_len_of i) length_checked)

  results_is : results_part i full_of ≡ rs
  unfolding results_part full_of rs
  results_is = rw (drop_at (measurement_of p i stream xs) (results_of p i stream xs) (encoded_input_len_of i) length_measurement) (take_all i.num_wr_tests rs (omega (arith, length_results)))

  parts_is : test_parts i full_of ≡ parts_of p (wr_test_bits_of i) (wr_test_bound i) i.num_wr_successes rs
  unfolding test_parts checked tb
  parts_is =
      let q = sq_norm_bits_of i in
      let vu = bits q v ++ bits q u in
      let l : length vu ≡ 2 * q = simp (length-append, length_bits) (omega arith) in
      let e : checked_part i full_of ≡ vu ++ tb = checked_is ∙ sym (append_assoc (bits q v) (bits q u) tb) in
      rw (e, drop_at vu tb (2 * q) l) (ap (λ (t : ℕ). groups (1 + wr_test_bits_of i) t tb) (sym length_results) ∙ groups_test_bits p (wr_test_bits_of i) (wr_test_bound i) i.num_wr_successes rs)

  positive : 0 < p
  positive = omega (arith, h.big)

  v_below : v < p
  unfolding v sq_norm
  v_below = evaluate_below p 1 positive _

  u_is : u ≡ sq_norm_bound_of i - v
  unfolding u v
  u_is =
      let n = sq_norm p xs in
      let B = sq_norm_bound_of i in
      let s : B + (p - n) ≡ B - n + p = omega (arith, h.norm, v_below) in
      ap (λ (x : ℕ). x % p) s ∙ add-mod_right (B - n) p ∙ mod-eq_of_lt (omega (arith, h.room_norm))

  norm_v_is : norm_v p i full_of ≡ v % p
  unfolding norm_v checked v
  norm_v_is = rw (checked_is, take_at (bits (sq_norm_bits_of i) v) (bits (sq_norm_bits_of i) u ++ tb) (sq_norm_bits_of i) (length_bits _ _)) (number_bits p (sq_norm_bits_of i) v (bound_fits i v h.norm))

  norm_u_is : norm_u p i full_of ≡ (sq_norm_bound_of i - v) % p
  unfolding norm_u checked
  norm_u_is =
      let q = sq_norm_bits_of i in
      let l : u ≤ sq_norm_bound_of i = omega (arith, u_is) in
      rw (checked_is, drop_at (bits q v) (bits q u ++ tb) q (length_bits q v), take_at (bits q u) tb q (length_bits q u)) (number_bits p q u (bound_fits i u l) ∙ ap (λ (x : ℕ). x % p) u_is)

  pub results_below : Below p (results_of p i stream xs)
  unfolding results_of
  results_below = tests_below p positive (bytes_per_test i.dimension) i.num_wr_tests stream xs

  written_fits : Below (2 ^ wr_test_bits_of i) (map (written p (wr_test_bound i)) rs)
  unfolding rs
  written_fits =
      let b = wr_test_bound i in
      let l : 2 * b ≤ 2 ^ wr_test_bits_of i = le_of_eq (sym (bits_power i)) in
      below_more (2 * b) (2 ^ wr_test_bits_of i) l (map (written p b) rs) (written_below p b h.room_test (bound_positive i) rs results_below)

  checked_below : Below 2 checked
  unfolding checked tb
  checked_below = below_append 2 (bits (sq_norm_bits_of i) v) _ (bits_below _ _) (below_append 2 (bits (sq_norm_bits_of i) u) _ (bits_below _ _) (test_bits_below p _ _ _ rs))

  pub well_formed : WellFormed p i full_of
  unfolding v rs
  well_formed = record {
    bits = rw checked_is checked_below;
    norm = rw (norm_v_is, norm_u_is) (term_n_zero p h.big (sq_norm_bound_of i) v h.norm);
    tests = rw (parts_is, results_is) (test_terms_zero p h.big (wr_test_bound i) (wr_test_bits_of i) i.num_wr_successes rs written_fits);
    successes = rw parts_is (term_g_zero p h.big (wr_test_bits_of i) (wr_test_bound i) i.num_wr_successes rs h.enough);
  }

  pub norm_equal : valid_equal_value p i full_of ≡ 0
  unfolding valid_equal_value v
  norm_equal = rw (norm_v_is, gradient_is) (sub_is p positive (sq_norm p xs % p) (sq_norm p xs) 0 (le_of_lt v_below) (rw (zero-add, mod-mod)) ∙ zero-mod p)

  pub length_full : length full_of ≡ input_len_of i
  unfolding full_of input_len_of rs
  length_full = length-append (measurement_of p i stream xs) (results_of p i stream xs) ∙ omega (arith, length_measurement, length_results)

  pub full_below : Below p full_of
  unfolding full_of rs
  full_below = below_append p (measurement_of p i stream xs) (results_of p i stream xs) (measurement_below p h.big i stream xs h.below) results_below
