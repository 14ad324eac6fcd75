-- Encoding from rule 21 on, with a norm and results that are narrowed: its rules are those of the norm and the results themselves, and what it writes is their measurement. Assumes nothing.
use mathlib.Core.Path.{◌≡◌, refl, sym, ap, ◌∙◌}
use mathlib.Core.Bool.{Bool, true, false, cond}
use mathlib.Core.List.{List, ◌++◌, map}
use Prim.Native.Nat.{ℕ, ◌+◌, ◌-◌, ◌*◌, ◌%◌, ◌^◌, ◌≤◌, ◌<◌}
use native.Mathlib.Nat.{le_trans, lt_trans, lt_of_le_of_lt, mod-eq_of_lt, add-mod_left}
use native.Mathlib.Omega.{arith}
use lib.ListN.{length, length-map}
use lib.Dec.{ltb, lit<, lit≤}
use lib.Ieee.{Float}
use borrow.Author.Tests.{ltb-false, lt-ltb}
use Rattle.rules.specs.declared.Answer.{Answer}
use Rattle.rules.specs.Rules.{accepted, first}
use Rattle.rules.proofs.Chain.{both, not_so}
use Rattle.field64.specs.Field.{p64, sub_mod}
use Rattle.pine.specs.declared.PineParam.{PineParam}
use Rattle.pine.specs.declared.record.Pine.{Pine}
use Rattle.pine.specs.Param.{param_answer}
use Rattle.pine.specs.Record.{wr_test_bound, pine_of, bound_in}
use Rattle.pine.proofs.Sizes.{bound_positive}
use Rattle.rows.specs.Rows.{Below}
use Rattle.field128.specs.Field128.{p128, words_of}
use Rattle.params128.specs.Field128.{Field128}
use Rattle.params128.proofs.Limits.{derivable_128, sizes_128}
use Rattle.flp.specs.Bits.{bits}
use Rattle.flp.specs.Encode.{elements, true_sq_norm_of, true_sq_norm_rule, sq_norm_rule, test_bits, range_rule, encode_outcome}
use Rattle.measurement.specs.Parts.{checked_of}
use Rattle.narrow.specs.Narrow.{narrowed, narrowed_norm}
use Rattle.narrow.proofs.Moved.{moved_below, range_same, bits_same}
use Rattle.encode.specs.Late.{Rooms, late_of}
use Rattle.encode.proofs.Encoding.{bound_is, bounds_fit, rest_long, late_refused, late_accepted}

-- ---- a squared norm as one word, beside a bound that has one

-- rule 10
norm_same : (v B : ℕ) → B < 2 ^ 64 - 1 → sq_norm_rule (narrowed_norm v) B ≡ sq_norm_rule v B
norm_same v B h = go (ltb v (2 ^ 64)) refl
  where
    go : (t : Bool) → ltb v (2 ^ 64) ≡ t → sq_norm_rule (cond t v (2 ^ 64 - 1)) B ≡ sq_norm_rule v B
    go true e = refl
    go false e = rw (lt-ltb B (2 ^ 64 - 1) h, lt-ltb B v (omega (arith, ltb-false v (2 ^ 64) e)))

-- where it is at most the bound it is the norm itself
norm_is : (v B : ℕ) → B < 2 ^ 64 - 1 → narrowed_norm v ≤ B → narrowed_norm v ≡ v
norm_is v B h k = go (ltb v (2 ^ 64)) k
  where
    go : (t : Bool) → cond t v (2 ^ 64 - 1) ≤ B → cond t v (2 ^ 64 - 1) ≡ v
    go true k = refl
    go false k = absurd (omega arith)

-- and what is left up to the bound is the same number
rest_is : (p B v : ℕ) → v ≤ B → B < p → sub_mod p B v ≡ B - v
rest_is p B v h k =
    let e : B + (p - v) ≡ p + (B - v) = omega arith in
    ap (λ (n : ℕ). n % p) e ∙ add-mod_left p (B - v) ∙ mod-eq_of_lt (omega arith)

-- ---- the results

module _ (i : PineParam) (e : param_answer Field128 i ≡ accepted) (R : Pine) (is : R ≡ pine_of i) (b : ℕ) (eb : b ≡ bound_in R) where
  bound : b ≡ wr_test_bound i
  bound = eb ∙ bound_is i R is (derivable_128 e)

  pub bound_small : b ≤ 2 ^ 48
  bound_small = omega (arith, bound, (sizes_128 i e).bound)

  pub positive : 0 < b
  positive = omega (arith, bound, bound_positive i)

  wide_room : 2 * b ≤ p128
  wide_room =
      let h : 2 * b ≤ 2 ^ 49 = omega (arith, bound_small) in
      le_trans h (lit≤ tt)

  narrow_room : 2 * b ≤ p64
  narrow_room = omega (arith, bound_small)

  -- the result that stands for all that are out of range is one there too
  above : b < 2 ^ 63
  above = omega (arith, bound_small)

  below_top : 2 ^ 63 + b ≤ p64
  below_top = omega (arith, bound_small)

  fits : (bound_in R ≤ p64) × ((0 < bound_in R) × (R.sq_norm_bound < p64))
  fits = bounds_fit i R is (derivable_128 e)

  module _ (xs : List ℕ) (below : Below p128 xs) (ys : List ℕ) (es : ys ≡ map (narrowed b) xs) where
    results_below : Below p64 ys
    results_below = rw es (moved_below p128 p64 b (2 ^ 63) positive wide_room narrow_room above below_top xs below)

    -- ---- the norm found, and the answer to the rules on what is narrowed

    module _ (g : List Float) (m r : List ℕ) (rooms : Rooms Field128 i g xs m r) (sq v y : ℕ) (a : Answer) (en : sq ≡ true_sq_norm_of i.frac_bits g) (ev : v ≡ sq % p128) (ey : y ≡ narrowed_norm v)
        (ea : a ≡ first (true_sq_norm_rule i.true_sq_norm sq R.sq_norm_bound) (first (sq_norm_rule y R.sq_norm_bound) (range_rule i.wr_test_rule p64 b R.num_wr_successes ys))) where
      abbrev B : ℕ
      B = R.sq_norm_bound

      abbrev tested : (p : ℕ) (rs : List ℕ) → Answer
      tested p rs = range_rule i.wr_test_rule p b R.num_wr_successes rs

      one_word : B < 2 ^ 64 - 1
      one_word = omega (arith, fits.1.1)

      answer_is : a ≡ first (true_sq_norm_rule i.true_sq_norm sq B) (first (sq_norm_rule v B) (tested p128 xs))
      answer_is =
          let n : sq_norm_rule y B ≡ sq_norm_rule v B = ap (λ (k : ℕ). sq_norm_rule k B) ey ∙ norm_same v B one_word in
          let t : tested p64 ys ≡ tested p128 xs = ap (λ (rs : List ℕ). tested p64 rs) es ∙ range_same p128 p64 b (2 ^ 63) positive wide_room narrow_room above below_top i.wr_test_rule R.num_wr_successes xs below in
          ea ∙ (λ j. first (true_sq_norm_rule i.true_sq_norm sq B) (first (n j) (t j)))

      pub refused : (a.number ≡ 0 → ⊥) → encode_outcome a m r ≡ late_of Field128 i g xs m r
      refused = late_refused Field128 i g xs m r rooms R is (bound_is i R is (derivable_128 e)) (lit< tt) sq v b a eb en ev answer_is

      module _ (z : a.number ≡ 0) where
        within : y ≤ B
        within =
            let h = (both (sq_norm_rule y B) (tested p64 ys) (both (true_sq_norm_rule i.true_sq_norm sq B) (first (sq_norm_rule y B) (tested p64 ys)) (ap (λ (c : Answer). c.number) (sym ea) ∙ z)).1).0 in
            ltb-false B y (not_so (ltb B y) 9 0 h)

        -- what is asked for writing, beside what is asked of the coordinates
        pub asked : (length m ≡ 2 * (length g + (2 * R.sq_norm_bits + (1 + R.wr_test_bits) * length ys))) × ((Below p64 ys × ((0 < bound_in R) × (bound_in R ≤ p64))) × ((y < p64) × (B < p64)))
        asked =
            let long = rest_long Field128 i g xs m r rooms R is ∙ (λ j. 2 * (length g + (2 * R.sq_norm_bits + (1 + R.wr_test_bits) * sym (ap length es ∙ length-map xs (narrowed b)) j))) in
            (long, ((results_below, (fits.1.0, fits.0)), (lt_of_le_of_lt within fits.1.1, fits.1.1)))

        as_found : y ≡ v
        as_found = ey ∙ norm_is v B one_word (rw (← ey) within)

        rest : sub_mod p64 B y ≡ sub_mod p128 B v
        rest = rest_is p64 B y within fits.1.1 ∙ ap (λ (n : ℕ). B - n) as_found ∙ sym (rest_is p128 B v (rw (← as_found) within) (lt_trans fits.1.1 (lit< tt)))

        tests : test_bits p64 R.wr_test_bits (bound_in R) R.num_wr_successes ys ≡ test_bits p128 R.wr_test_bits (bound_in R) R.num_wr_successes xs
        tests =
            (λ j. test_bits p64 R.wr_test_bits (sym eb j) R.num_wr_successes (es j))
            ∙ bits_same p128 p64 b (2 ^ 63) positive wide_room narrow_room above below_top R.wr_test_bits R.num_wr_successes xs below
            ∙ (λ j. test_bits p128 R.wr_test_bits (eb j) R.num_wr_successes xs)

        pub done : (m₁ r₁ : List ℕ)
            → m₁ ≡ words_of (elements p128 R.frac_bits g ++ checked_of p64 R.sq_norm_bits y (sub_mod p64 B y) R.wr_test_bits (bound_in R) R.num_wr_successes ys)
            → r₁ ≡ words_of xs → encode_outcome a m₁ r₁ ≡ late_of Field128 i g xs m r
        done m₁ r₁ em er =
            late_accepted Field128 i g xs m r rooms R is (bound_is i R is (derivable_128 e)) (lit< tt) sq v b a eb en ev answer_is m₁
            (em ∙ (λ j. words_of (elements p128 R.frac_bits g ++ (bits R.sq_norm_bits (as_found j) ++ (bits R.sq_norm_bits (rest j) ++ tests j)))))
            r₁ z er
