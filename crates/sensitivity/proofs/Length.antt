-- The sum of squares in the field is the true squared length, where that is within the bound: so rule 10 does not refuse. Assumes nothing.
use mathlib.Core.Path.{◌≡◌, refl, sym, subst, ◌∙◌}
use mathlib.Core.Bool.{Bool, true, false, cond, ◌&&◌, true≢false}
use mathlib.Core.List.{List, [], ◌∷◌}
use Prim.Native.Nat.{ℕ, suc, ◌≤◌, ◌<◌}
use native.Mathlib.Nat.{lt_of_le_of_lt, mod-eq_of_lt}
use lib.Ieee.{Float}
use lib.Dec.{eqb, ltb, lit<}
use lib.ListN.{length}
use borrow.Author.Tests.{le-ltb, ltb-false, eqb-true, eqb-false}
use Rattle.rules.specs.declared.Answer.{Answer}
use Rattle.rules.specs.Rules.{answer, accepted, refuse, first, in_order, out_of}
use Rattle.rules.proofs.Chain.{none, passed, not_so}
use Rattle.doubles.specs.Doubles.{floor_of, beyond, unusable, coordinate_rule}
use Rattle.pine.specs.declared.PineParam.{PineParam}
use Rattle.pine.specs.declared.WrTestRule.{WrTestRule}
use Rattle.pine.specs.declared.WrTestRule.TheVariants.{Every, Enough}
use Rattle.pine.specs.Param.{Field, Field64, param_rules, param_answer}
use Rattle.pine.specs.Record.{sq_norm_bound_of, wr_test_bound, encoded_input_len_of, stream_len_of}
use Rattle.flp.specs.Encode.{elements, sq_norm, true_sq_norm_of, coordinates_rule, true_sq_norm_rule, sq_norm_rule, in_range, count_in_range, results_of, every_rule, enough_rule, range_rule, encode_rules, encode_answer}
use Rattle.flp.proofs.Gradient.{room_64}
use Rattle.flp.proofs.TrueNorm.{norm_mod}
use Rattle.flp.proofs.Valid.{answered}
use Rattle.correctness.specs.Correctness.{Report}
use Rattle.sensitivity.specs.Sensitivity.{Short, TrueLengths}

-- ---- rules by other numbers than 10

abbrev Other : Answer → Type 0
Other a = a.number ≡ 10 → ⊥

either : (t : Bool) (a b : Answer) → Other a → Other b → Other (cond t a b)
either true a b h k = h
either false a b h k = k

either_number : (t : Bool) (m n j k : ℕ) → eqb m 10 ≡ false → eqb n 10 ≡ false → Other (cond t (answer m j) (answer n k))
either_number t m n j k g h = either t (answer m j) (answer n k) (eqb-false m 10 g) (eqb-false n 10 h)

first_other : (a b : Answer) → Other a → (a.number ≡ 0 → Other b) → Other (first a b)
first_other a b h k = go (eqb a.number 0) refl
  where
    go : (t : Bool) → eqb a.number 0 ≡ t → Other (cond t b a)
    go true z = k (eqb-true _ _ z)
    go false z = h

-- each rule that is reached
abbrev Others : List Answer → Type 0
Others [] = Unit {0}
Others (a ∷ rest) = Other a × (a.number ≡ 0 → Others rest)

in_order_lem : (rules : List Answer) → Others rules → Other (in_order rules)
in_order_lem [] h = eqb-false 0 10 refl
in_order_lem (a ∷ rest) h = first_other a (in_order rest) h.0 (λ z. in_order_lem rest (h.1 z))

param_other : (F : Field) (i : PineParam) → Other (param_answer F i)
unfolding param_answer param_rules
param_other F i =
    in_order_lem (param_rules F i) (
      either_number (ltb i.num_wr_tests i.num_wr_successes) 1 0 0 0 refl refl,
      λ z. (
        either_number (out_of i.norm_bound F.norm_limit) 2 0 0 0 refl refl,
        λ z. (
          either_number (out_of i.dimension 65536) 3 0 0 0 refl refl,
          λ z. (
            either_number (ltb 30 i.frac_bits) 4 0 0 0 refl refl,
            λ z. (
              either_number (out_of i.chunk_len 65536) 5 0 0 0 refl refl,
              λ z. (
                either_number (out_of i.chunk_len_sq_norm_equal 65536) 5 0 0 0 refl refl,
                λ z. (
                  either_number (out_of i.num_wr_tests 256) 6 0 0 0 refl refl,
                  λ z. (
                    either_number (out_of i.alpha_numerator 65535) 19 0 0 0 refl refl,
                    λ z. (either_number (out_of i.alpha_denominator 65535) 19 0 0 0 refl refl, λ z. tt),
                  ),
                ),
              ),
            ),
          ),
        ),
      ),
    )

coordinates_other : (limit f k : ℕ) (xs : List Float) → Other (coordinates_rule limit f k xs)
unfolding coordinates_rule
coordinates_other limit f k [] = eqb-false 0 10 refl
coordinates_other limit f k (x ∷ xs) =
    first_other (answer (coordinate_rule limit x f).number k) (coordinates_rule limit f (suc k) xs)
    (first_other (refuse (unusable x) 8 0) (refuse (beyond limit (floor_of x f)) 17 0) (either_number (unusable x) 8 0 0 0 refl refl) (λ z. either_number (beyond limit (floor_of x f)) 17 0 0 0 refl refl))
    (λ z. coordinates_other limit f (suc k) xs)

every_other : (p b k : ℕ) (rs : List ℕ) → Other (every_rule p b k rs)
unfolding every_rule
every_other p b k [] = eqb-false 0 10 refl
every_other p b k (r ∷ rs) = either (in_range p b r) (every_rule p b (suc k) rs) (answer 11 k) (every_other p b (suc k) rs) (eqb-false 11 10 refl)

range_other : (rule : WrTestRule) (p b K : ℕ) (rs : List ℕ) → Other (range_rule rule p b K rs)
unfolding range_rule enough_rule
range_other Every p b K rs = every_other p b 0 rs
range_other Enough p b K rs = either_number (ltb (count_in_range p b rs) K) 20 0 (count_in_range p b rs) 0 refl refl

module _ (F : Field) (positive : 0 < F.p) (room : (i : PineParam) → (param_answer F i).number ≡ 0 → sq_norm_bound_of i < F.p) (i : PineParam) where
  module _ (gradient : List Float) (s : Short i gradient) where
    true_v : (param_answer F i).number ≡ 0 → sq_norm F.p (elements F.p i.frac_bits gradient) ≡ true_sq_norm_of i.frac_bits gradient
    true_v h = norm_mod F.p positive i.frac_bits gradient ∙ mod-eq_of_lt (lt_of_le_of_lt s (room i h))

    -- so rule 10 accepts
    met : (param_answer F i).number ≡ 0 → sq_norm_rule (sq_norm F.p (elements F.p i.frac_bits gradient)) (sq_norm_bound_of i) ≡ accepted
    met h = rw (true_v h, le-ltb (sq_norm_bound_of i) (true_sq_norm_of i.frac_bits gradient) s)

  -- so encoding never answers 10, where rule 21 leaves short gradients only
  never_10 : (gradient : List Float) (stream measurement results : List ℕ) → ((true_sq_norm_rule i.true_sq_norm (true_sq_norm_of i.frac_bits gradient) (sq_norm_bound_of i)).number ≡ 0 → Short i gradient) → Other (encode_answer F i gradient stream measurement results)
  unfolding encode_rules
  never_10 gradient stream measurement results s =
      in_order_lem (encode_rules F i gradient stream measurement results) (
        param_other F i,
        λ ok. (
          either_number (eqb (length stream) (stream_len_of i.num_wr_tests i.dimension)) 0 7 0 2 refl refl,
          λ z. (
            either_number (eqb (length measurement) (F.words_in (encoded_input_len_of i))) 0 7 0 3 refl refl,
            λ z. (
              either_number (eqb (length results) (F.words_in i.num_wr_tests)) 0 7 0 4 refl refl,
              λ z. (
                coordinates_other F.floor_limit i.frac_bits 0 gradient,
                λ z. (
                  either_number (eqb (length gradient) i.dimension) 0 9 0 0 refl refl,
                  λ z. (
                    either_number (i.true_sq_norm && ltb (sq_norm_bound_of i) (true_sq_norm_of i.frac_bits gradient)) 21 0 0 0 refl refl,
                    λ passed. (
                      subst Other (sym (met gradient (s passed) ok)) (eqb-false 0 10 refl),
                      λ z. (range_other i.wr_test_rule F.p (wr_test_bound i) i.num_wr_successes (results_of F.p i stream (elements F.p i.frac_bits gradient)), λ z. tt),
                    ),
                  ),
                ),
              ),
            ),
          ),
        ),
      )

-- rule 21 passed, with the switch on
switched : (on : Bool) (n B : ℕ) → on ≡ true → (true_sq_norm_rule on n B).number ≡ 0 → n ≤ B
switched true n B e h = ltb-false B n (not_so (ltb B n) 20 0 h)
switched false n B e h = absurd (true≢false (sym e))

-- so is it for a report
report_short : (F : Field) (i : PineParam) → i.true_sq_norm ≡ true → (r : Report F i) → Short i r.gradient
unfolding encode_rules
report_short F i on r =
    let h = passed (encode_rules F i r.gradient r.stream r.found_measurement r.found_results) (answered F i r.gradient r.stream r.found_measurement r.found_results r.measurement r.results r.call) in
    switched i.true_sq_norm (true_sq_norm_of i.frac_bits r.gradient) (sq_norm_bound_of i) on h.1.1.1.1.1.1.0

pub true_lengths : (F : Field) → 0 < F.p → ((i : PineParam) → (param_answer F i).number ≡ 0 → sq_norm_bound_of i < F.p) → TrueLengths F
true_lengths F positive room = record {
  v = λ i ok gradient s. true_v F positive room i gradient s (none ok);
  never = λ i gradient stream measurement results s. never_10 F positive room i gradient stream measurement results (λ z. s);
  on_short = report_short F;
  on_never = λ i on gradient stream measurement results. never_10 F positive room i gradient stream measurement results (switched i.true_sq_norm (true_sq_norm_of i.frac_bits gradient) (sq_norm_bound_of i) on);
}

pub true_lengths_64 : TrueLengths Field64
true_lengths_64 = true_lengths Field64 (lit< tt) (λ i h. (room_64 i h).norm)
