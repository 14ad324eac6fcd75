-- How rarely a false report looks true, over any field whose modulus is prime and whose rows can be read back; and over Field64. Assumes nothing.
use mathlib.Core.Path.{◌≡◌, refl, sym, ap, ◌∙◌}
use mathlib.Core.List.{List, [], ◌∷◌, map}
use Prim.Native.Nat.{ℕ, zero, suc, ◌+◌, ◌-◌, ◌*◌, ◌%◌, ◌≤◌, ◌<◌}
use native.Mathlib.Nat.{mod-mod, mod-eq_of_lt, add-mod_right, mul-le-mul_right, le_trans}
use native.Mathlib.Decide.{ℕ_discrete}
use native.Mathlib.Omega.{arith}
use lib.ListN.{length, length-map}
use Rattle.rules.specs.Rules.{accepted, in_order}
use Rattle.field64.specs.Field.{sub_mod, mul_mod}
use Rattle.field64.specs.Prime.{Prime}
use Rattle.field64.specs.Sums.{evaluate}
use Rattle.field64.proofs.Primes.{prime_64}
use Rattle.field64.proofs.Factors.{other_zero}
use Rattle.pine.specs.declared.PineParam.{PineParam}
use Rattle.pine.specs.Param.{Field, Field64}
use Rattle.pine.specs.Words.{WordLaws}
use Rattle.pine.specs.Record.{sq_norm_bound_of, wr_test_bound, wr_test_bits_of, bit_checked_len_of, gadget_calls_of}
use Rattle.pine.proofs.Words.{words_64}
use Rattle.rows.specs.Rows.{Below}
use Rattle.rows.proofs.Elements.{below_take, below_drop}
use Rattle.flp.specs.Circuits.{checked_part, results_part, test_parts, norm_v, norm_u, term_a, term_n, test_terms, term_w, term_g, valid_value, valid_rules, valid_of, zero_with, FullVector, WellFormed}
use Rattle.flp.proofs.Bits.{length_groups}
use Rattle.flp.proofs.Circuits.{inverse_one, below_one}
use Rattle.flp.proofs.Recorded.{length_checked, length_results}
use Rattle.flp.proofs.Vector.{main_accepted, main_zero}
use Rattle.soundness.specs.Soundness.{triples, main, looks_true, worst, Soundness}
use Rattle.soundness.proofs.Counting.{triples_le, triples_all}
use Rattle.soundness.proofs.Roots.{Zeros, zeros_or}
use Rattle.soundness.proofs.Cases.{is_zero, outer, middle, inner}

-- ---- coefficients

-- of A
abbrev bit_terms : (p : ℕ) → List ℕ → List ℕ
bit_terms p xs = map (λ x. mul_mod p x (sub_mod p x 1)) xs

module _ (p : ℕ) (prime : Prime p) where
  -- x · (x - 1) is zero for 0 and 1 alone
  bit : (x : ℕ) → x < p → mul_mod p x (sub_mod p x 1) % p ≡ 0 → x < 2
  bit zero h e = omega arith
  bit (suc x) h e =
      let a : suc x + (p - 1) ≡ x + p = omega arith in
      let b : sub_mod p (suc x) 1 ≡ x = ap (λ (n : ℕ). n % p) a ∙ add-mod_right x p ∙ mod-eq_of_lt (omega arith) in
      let c : (suc x * x) % p ≡ 0 = sym (mod-mod (suc x * x) p) ∙ rw b at e in
      let d : x % p ≡ 0 = other_zero p prime (suc x) x c (λ w. not_zero (mod-eq_of_lt h) w) in
      omega (arith, mod-eq_of_lt (below_too x h))
    where
      not_zero : suc x % p ≡ suc x → suc x % p ≡ 0 → ⊥
      not_zero e w = omega arith

      below_too : (x : ℕ) → suc x < p → x < p
      below_too x h = omega arith

  all_bits : (xs : List ℕ) → Below p xs → Zeros p (bit_terms p xs) → Below 2 xs
  all_bits [] f z = tt
  all_bits (x ∷ xs) f z = (bit x f.0 z.0, all_bits xs f.1 z.1)

-- of W
module _ (p b w : ℕ) where
  length_terms : (parts : List (List ℕ)) (rs : List ℕ) → length parts ≡ length rs → length (test_terms p 1 b w parts rs) ≡ length rs
  unfolding test_terms
  length_terms [] [] e = refl
  length_terms [] (r ∷ rs) e = absurd (omega arith)
  length_terms (part ∷ parts) [] e = absurd (omega arith)
  length_terms (part ∷ parts) (r ∷ rs) e = ap suc (length_terms parts rs (omega arith))

  all_zero : (parts : List (List ℕ)) (rs : List ℕ) → Zeros p (test_terms p 1 b w parts rs) → Below 1 (test_terms p 1 b w parts rs)
  unfolding test_terms
  all_zero [] rs z = tt
  all_zero (part ∷ parts) [] z = tt
  all_zero (part ∷ parts) (r ∷ rs) z = (below_one _ (sym (mod-mod _ p) ∙ z.0), all_zero parts rs z.1)

-- ---- a vector

module _ (F : Field) (laws : WordLaws F) (prime : Prime F.p) (i : PineParam) (full : List ℕ) (vector : FullVector F i full) where
  abbrev p : ℕ
  p = F.p

  abbrev xs : List ℕ
  xs = bit_terms p (checked_part i full)

  abbrev ws : List ℕ
  ws = test_terms p 1 (wr_test_bound i) (wr_test_bits_of i) (test_parts i full) (results_part i full)

  abbrev N : ℕ
  N = term_n p 1 (sq_norm_bound_of i) (norm_v p i full) (norm_u p i full)

  abbrev G : ℕ
  G = term_g p 1 i.num_wr_successes (wr_test_bits_of i) (test_parts i full)

  length_xs : length xs ≡ bit_checked_len_of i
  length_xs = length-map (checked_part i full) (λ x. mul_mod p x (sub_mod p x 1)) ∙ length_checked i full vector.long

  length_ws : length ws ≡ i.num_wr_tests
  unfolding test_parts
  length_ws =
      let e : length (results_part i full) ≡ i.num_wr_tests = length_results i full vector.long in
      length_terms p (wr_test_bound i) (wr_test_bits_of i) (test_parts i full) (results_part i full) (length_groups _ _ _ ∙ sym e) ∙ e

  checked_below : Below p (checked_part i full)
  unfolding checked_part
  checked_below = below_take p (bit_checked_len_of i) _ (below_drop p i.dimension full vector.below)

  module _ (r1 r2 r3 : ℕ) (h1 : r1 < F.p) (h2 : r2 < F.p) (h3 : r3 < F.p) where
    answered : in_order (valid_rules F i 1 (F.words full) (F.words (r1 ∷ r2 ∷ r3 ∷ []))) ≡ accepted
    answered = main_accepted F laws i full vector (r1 ∷ r2 ∷ r3 ∷ []) refl (h1, (h2, (h3, tt)))

    answer_is : (main F i full r1 r2 r3).answer ≡ accepted
    unfolding valid_of
    answer_is = answered

    value_is : (main F i full r1 r2 r3).value ≡ evaluate p r3 (evaluate p r1 xs ∷ N ∷ evaluate p r2 ws ∷ G ∷ [])
    unfolding valid_of valid_value term_a term_w
    value_is = rw (answered, laws.read_back full vector.below, laws.read_back (r1 ∷ r2 ∷ r3 ∷ []) (h1, (h2, (h3, tt))), inverse_one p)

    well_formed : WellFormed F.p i full → main F i full r1 r2 r3 ≡ zero_with (gadget_calls_of i)
    well_formed w = main_zero F laws i full vector prime.above w (r1 ∷ r2 ∷ r3 ∷ []) refl (h1, (h2, (h3, tt)))

  same : triples p (looks_true F i full) ≤ triples p (is_zero p xs ws N G)
  same = triples_le p (looks_true F i full) (is_zero p xs ws N G) (λ r1 r2 r3 h1 h2 h3 t. rw (value_is r1 r2 r3 h1 h2 h3) at t)

  -- ---- one that is not well formed
  within : (n : ℕ) → n ≤ worst i → triples p (is_zero p xs ws N G) ≤ n * (p * p) → triples p (looks_true F i full) ≤ worst i * (p * p)
  within n h l = le_trans same (le_trans l (mul-le-mul_right (p * p) h))

  N_below : N % p ≡ 0 → N ≡ 0
  unfolding term_n
  N_below e = sym (mod-mod _ p) ∙ e

  G_below : G % p ≡ 0 → G ≡ 0
  unfolding term_g
  G_below e = sym (mod-mod _ p) ∙ e

  pub false_report : (WellFormed F.p i full → ⊥) → triples p (looks_true F i full) ≤ worst i * (p * p)
  false_report bad = go (ℕ_discrete (N % p) 0) (ℕ_discrete (G % p) 0) (zeros_or p ws) (zeros_or p xs)
    where
      go : Dec (N % p ≡ 0) → Dec (G % p ≡ 0) → Dec (Zeros p ws) → Dec (Zeros p xs) → triples p (looks_true F i full) ≤ worst i * (p * p)
      go (no n) g w a = within 3 (omega arith) (outer p prime xs ws N G (λ r1 r2 z. n z.1.0))
      go (yes n) (no g) w a = within 3 (omega arith) (outer p prime xs ws N G (λ r1 r2 z. g z.1.1.1.0))
      go (yes n) (yes g) (no w) a = within (length ws + 1) (omega (arith, length_ws)) (rw (N_below n, G_below g) (middle p prime xs ws w))
      go (yes n) (yes g) (yes w) (no a) = within (length xs - 1) (omega (arith, length_xs)) (rw (N_below n, G_below g) (inner p prime xs ws w a))
      go (yes n) (yes g) (yes w) (yes a) =
          absurd (bad (record {
            bits = all_bits p prime (checked_part i full) checked_below a;
            norm = N_below n;
            tests = all_zero p (wr_test_bound i) (wr_test_bits_of i) (test_parts i full) (results_part i full) w;
            successes = G_below g;
          }))

pub soundness : (F : Field) → WordLaws F → Prime F.p → Soundness F
soundness F laws prime = record {
  prime = prime;
  all = triples_all F.p;
  accepts = λ i full v r1 r2 r3 h1 h2 h3. answer_is F laws prime i full v r1 r2 r3 h1 h2 h3;
  always = λ i full v w r1 r2 r3 h1 h2 h3. well_formed F laws prime i full v r1 r2 r3 h1 h2 h3 w;
  rarely = λ i full v bad. false_report F laws prime i full v bad;
}

pub soundness_64 : Soundness Field64
soundness_64 = soundness Field64 words_64 prime_64
