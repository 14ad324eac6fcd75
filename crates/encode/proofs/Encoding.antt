-- The cases of encoding: refused by a rule up to 9, or by a later one, or accepted. Assumes nothing.
use mathlib.Core.Path.{◌≡◌, refl, sym, ap, ◌∙◌}
use mathlib.Core.Bool.{Bool, true, false, cond}
use mathlib.Core.List.{List, [], ◌∷◌, ◌++◌}
use Prim.Native.Nat.{ℕ, suc, ◌+◌, ◌*◌, ◌/◌, ◌%◌, ◌≤◌, ◌<◌}
use native.Mathlib.Nat.{le_trans, lt_of_le_of_lt, mul-le-mul}
use native.Mathlib.Omega.{arith}
use lib.ListN.{length, take, drop}
use lib.Dec.{eqb, ltb, lit<}
use lib.Ieee.{Float}
use borrow.Author.Tests.{eq-eqb, ne_eqb, eqb-true}
use Rattle.rules.specs.declared.Answer.{Answer}
use Rattle.rules.specs.Rules.{answer, accepted, first, in_order}
use Rattle.rules.proofs.Chain.{passed, accepted_whole, refuse_last, so, first_refused, first_passed, split}
use Rattle.field64.specs.Field.{p64, sub_mod}
use Rattle.pine.specs.declared.PineParam.{PineParam}
use Rattle.pine.specs.declared.WrTestRule.{WrTestRule}
use Rattle.pine.specs.declared.WrTestRule.TheVariants.{Every, Enough}
use Rattle.pine.specs.declared.record.Pine.{Pine}
use Rattle.pine.specs.Param.{Field, param_answer}
use Rattle.pine.specs.Words.{WordLaws}
use Rattle.pine.specs.Record.{sq_norm_bound_of, sq_norm_bits_of, wr_test_bound, wr_test_bits_of, bit_checked_len_of, encoded_input_len_of, bytes_per_test, stream_len_of, pine_of, bound_in, Derivable}
use Rattle.rows.specs.Rows.{row_rule}
use Rattle.pine.proofs.Limits.{limits, param_accepted}
use Rattle.pine.proofs.Sizes.{bound_positive, limits_of, recovered_of, bound_below}
use Rattle.rows.proofs.Lengths.{row_right}
use Rattle.flp.specs.Tests.{tests_of}
use Rattle.flp.specs.Encode.{elements, sq_norm, results_of, measurement_of, gradient_len_rule, true_sq_norm_of, true_sq_norm_rule, sq_norm_rule, in_range, count_in_range, every_rule, enough_rule, range_rule, encode_outcome, encode_rules, encode_answer, encode_of}
use Rattle.flp.proofs.TrueNorm.{norm_mod}
use Rattle.measurement.specs.Parts.{Usable, checked_of}
use Rattle.gradient_rules.proofs.Searches.{all_usable_lem}
use Rattle.encode.specs.Late.{rows_answer, Rooms, late_answer, measurement_with, late_of}

-- each as the last rule of a chain
every_last : (p b k : ℕ) (rs : List ℕ) → first (every_rule p b k rs) accepted ≡ every_rule p b k rs
unfolding every_rule
every_last p b k [] = refl
every_last p b k (r ∷ rs) = go (in_range p b r) (every_last p b (suc k) rs)
  where
    go : (t : Bool) → first (every_rule p b (suc k) rs) accepted ≡ every_rule p b (suc k) rs → first (cond t (every_rule p b (suc k) rs) (answer 11 k)) accepted ≡ cond t (every_rule p b (suc k) rs) (answer 11 k)
    go true e = e
    go false e = refl

range_last : (rule : WrTestRule) (p b K : ℕ) (rs : List ℕ) → first (range_rule rule p b K rs) accepted ≡ range_rule rule p b K rs
unfolding range_rule enough_rule
range_last Every p b K rs = every_last p b 0 rs
range_last Enough p b K rs = refuse_last (ltb (count_in_range p b rs) K) 19 (count_in_range p b rs)

len_last : (n d : ℕ) → first (gradient_len_rule n d) accepted ≡ gradient_len_rule n d
len_last n d = go (eqb n d)
  where
    go : (t : Bool) → first (cond t accepted (answer 9 0)) accepted ≡ cond t accepted (answer 9 0)
    go true = refl
    go false = refl

-- ---- with the record of the inputs

module _ (i : PineParam) (R : Pine) (is : R ≡ pine_of i) where
  pub fraction_is : R.frac_bits ≡ i.frac_bits
  unfolding pine_of
  fraction_is = rw is

  pub stream_is : stream_len_of R.num_wr_tests R.dimension ≡ stream_len_of i.num_wr_tests i.dimension
  unfolding pine_of
  stream_is = rw is

  -- ---- inputs from which a record can be derived

  module _ (d : Derivable i) where
    -- b, as the record answers for it
    pub bound_is : bound_in R ≡ wr_test_bound i
    bound_is = ap bound_in is ∙ (recovered_of i d).bound

    norm_fits : sq_norm_bound_of i < p64
    unfolding sq_norm_bound_of
    norm_fits =
        let l : i.norm_bound ≤ 4294967295 = le_trans (limits_of i d).norm.1 d.narrow in
        lt_of_le_of_lt (mul-le-mul l l) (lit< tt)

    -- Field64 has room for both bounds, though the inputs may be another field's
    pub bounds_fit : (bound_in R ≤ p64) × ((0 < bound_in R) × (R.sq_norm_bound < p64))
    unfolding pine_of
    bounds_fit = rw (bound_is, is) (omega (arith, bound_below p64 (lit< tt) i d), (bound_positive i, norm_fits))

-- ---- from rule 21 on, the results given

module _ (F : Field) (i : PineParam) (g : List Float) (found m r : List ℕ) (rooms : Rooms F i g found m r) where
  module _ (R : Pine) (is : R ≡ pine_of i) where
    -- the rest of the measurement's row is as long as what follows the gradient
    pub rest_long : length m ≡ F.words_in (length g + (2 * R.sq_norm_bits + (1 + R.wr_test_bits) * length found))
    unfolding pine_of encoded_input_len_of bit_checked_len_of
    rest_long = rw is (rooms.1.1.0 ∙ (λ j. F.words_in (sym rooms.0 j + (2 * sq_norm_bits_of i + (1 + wr_test_bits_of i) * sym rooms.1.0 j))))

    -- what the code has found
    module _ (b-is : bound_in R ≡ wr_test_bound i) (positive : 0 < F.p) (sq v b : ℕ) (a : Answer) (eb : b ≡ bound_in R) (en : sq ≡ true_sq_norm_of i.frac_bits g) (ev : v ≡ sq % F.p)
        (ea : a ≡ first (true_sq_norm_rule i.true_sq_norm sq R.sq_norm_bound) (first (sq_norm_rule v R.sq_norm_bound) (range_rule i.wr_test_rule F.p b R.num_wr_successes found))) where
      norm_is : v ≡ sq_norm F.p (elements F.p i.frac_bits g)
      norm_is = ev ∙ ap (λ (m : ℕ). m % F.p) en ∙ sym (norm_mod F.p positive i.frac_bits g)

      answer_is : late_answer F i g found m r ≡ a
      unfolding pine_of
      answer_is = sym (ea ∙ (λ j. first (true_sq_norm_rule i.true_sq_norm (en j) (is j).sq_norm_bound) (first (sq_norm_rule (norm_is j) (is j).sq_norm_bound) (range_rule i.wr_test_rule F.p ((eb ∙ b-is) j) (is j).num_wr_successes found))))

      pub late_refused : (a.number ≡ 0 → ⊥) → encode_outcome a m r ≡ late_of F i g found m r
      unfolding late_of
      late_refused h = rw (answer_is, ne_eqb a.number 0 h)

      module _ (m₁ : List ℕ) (em : m₁ ≡ F.words (elements F.p R.frac_bits g ++ checked_of F.p R.sq_norm_bits v (sub_mod F.p R.sq_norm_bound v) R.wr_test_bits (bound_in R) R.num_wr_successes found)) where
        written : m₁ ≡ F.words (measurement_with F i g found m r)
        unfolding pine_of
        written = em ∙ (λ j. F.words (elements F.p (is j).frac_bits g ++ checked_of F.p (is j).sq_norm_bits (norm_is j) (sub_mod F.p (is j).sq_norm_bound (norm_is j)) (is j).wr_test_bits (b-is j) (is j).num_wr_successes found))

        pub late_accepted : (r₁ : List ℕ) → a.number ≡ 0 → r₁ ≡ F.words found → encode_outcome a m₁ r₁ ≡ late_of F i g found m r
        unfolding late_of
        late_accepted r₁ z er = rw (answer_is, eq-eqb a.number 0 z, written, er)

-- ---- the whole call

module _ (F : Field) (i : PineParam) (g : List Float) (s m r : List ℕ) where
  abbrev early : Answer
  early = in_order (take 6 (encode_rules F i g s m r))

  abbrev xs : List ℕ
  xs = elements F.p i.frac_bits g

  -- rules 1 to 9, 17 and 19, the inputs accepted
  pub early_is : (R : Pine) → R ≡ pine_of i → (a₂ a : Answer) → (param_answer F i).number ≡ 0
      → a₂ ≡ row_rule 2 (length s) (stream_len_of i.num_wr_tests i.dimension)
      → a ≡ rows_answer F R a₂ g m r → a ≡ early
  unfolding encode_rules pine_of
  early_is R is a₂ a h e₂ e = e ∙ simp (is, e₂, eq-eqb _ _ h, len_last (length g) i.dimension)

  pub early_refused : (a : Answer) → a ≡ early → (a.number ≡ 0 → ⊥) → encode_outcome a m r ≡ encode_of F i g s m r
  unfolding encode_of
  early_refused a e h =
      let f : encode_answer F i g s m r ≡ a = split 6 (encode_rules F i g s m r) ∙ first_refused early (in_order (drop 6 (encode_rules F i g s m r))) (λ z. h (ap (λ (b : Answer). b.number) e ∙ z)) ∙ sym e in
      rw (f, ne_eqb a.number 0 h)

  stopped : (a : Answer) → a ≡ param_answer F i → (a.number ≡ 0 → ⊥) → a ≡ early
  unfolding encode_rules
  stopped a e h = simp (← e, ne_eqb a.number 0 h)

  -- one of the rules on the inputs is broken
  pub inputs_refused : (a : Answer) → a ≡ param_answer F i → (a.number ≡ 0 → ⊥) → encode_outcome a m r ≡ encode_of F i g s m r
  inputs_refused a e h = early_refused a (stopped a e h) h

  pub early_met : (a : Answer) → a ≡ early → a.number ≡ 0 → early ≡ accepted
  early_met a e h = accepted_whole (take 6 (encode_rules F i g s m r)) (ap (λ (b : Answer). b.number) (sym e) ∙ h)

  -- ---- these are met

  module _ (met : early ≡ accepted) where
    pub record Ready : Type 0 where
      pub inputs : param_answer F i ≡ accepted
      pub stream_long : length s ≡ stream_len_of i.num_wr_tests i.dimension
      pub measurement_long : length m ≡ F.words_in (encoded_input_len_of i)
      pub results_long : length r ≡ F.words_in i.num_wr_tests
      pub usable : Usable F.floor_limit i.frac_bits g
      pub gradient_long : length g ≡ i.dimension
      pub dimension : (0 < i.dimension) × (i.dimension ≤ 65536)
      pub tests : (0 < i.num_wr_tests) × (i.num_wr_tests ≤ 256)

    pub ready : Ready
    unfolding encode_rules
    ready =
        let h = passed (take 6 (encode_rules F i g s m r)) (ap (λ (b : Answer). b.number) met) in
        let l = limits F i h.0 in
        record {
          inputs = param_accepted F i h.0;
          stream_long = row_right 2 _ _ h.1.0;
          measurement_long = row_right 3 _ _ h.1.1.0;
          results_long = row_right 4 _ _ h.1.1.1.0;
          usable = all_usable_lem F.floor_limit i.frac_bits 0 g h.1.1.1.1.0;
          gradient_long = eqb-true _ _ (so _ 8 0 h.1.1.1.1.1.0);
          dimension = l.dimension;
          tests = l.tests;
        }

    module _ (laws : WordLaws F) where
      results_counted : length (F.elements r) ≡ i.num_wr_tests
      results_counted = laws.counted r i.num_wr_tests ready.results_long

      pub few : length (F.elements r) ≤ 256
      few = omega (arith, results_counted, ready.tests)

      -- with a row of n results: the tests have room, and take the whole stream
      module _ (n : ℕ) (l : n ≡ length (F.elements r)) where
        pub record Room : Type 0 where
          pub whole : n * ((length g + 3) / 4) ≡ stream_len_of i.num_wr_tests i.dimension
          pub tests : (0 < n) × (n ≤ 256)
          pub per : ((0 < (length g + 3) / 4) × ((length g + 3) / 4 ≤ 16384)) × (length g ≤ 4 * ((length g + 3) / 4))

        pub room : Room
        room =
            let e = l ∙ results_counted in
            let d = ready.gradient_long in
            record {
              whole = λ j. e j * bytes_per_test (d j);
              tests = (omega (arith, e, ready.tests), omega (arith, e, ready.tests));
              per = ((omega (arith, d, ready.dimension), omega (arith, d, ready.dimension)), omega arith);
            }

      pub rooms : (found : List ℕ) → length found ≡ length (F.elements r) → Rooms F i g found m r
      rooms found l = (ready.gradient_long, (l ∙ results_counted, (ready.measurement_long, ready.results_long)))

      -- when the results are those of the tests
      module _ (found : List ℕ) (n : ℕ) (f : ℕ) (l : n ≡ length (F.elements r)) (f-is : f ≡ i.frac_bits) (er : found ≡ tests_of F.p ((length g + 3) / 4) n s (elements F.p f g)) where
        results_are : found ≡ results_of F.p i s xs
        unfolding results_of
        results_are = er ∙ (λ j. tests_of F.p (bytes_per_test (ready.gradient_long j)) ((l ∙ results_counted) j) s (elements F.p (f-is j) g))

        late : in_order (drop 6 (encode_rules F i g s m r)) ≡ late_answer F i g found m r
        unfolding encode_rules
        late = rw (results_are, range_last i.wr_test_rule F.p (wr_test_bound i) i.num_wr_successes (results_of F.p i s xs))

        whole_is : encode_answer F i g s m r ≡ late_answer F i g found m r
        whole_is = split 6 (encode_rules F i g s m r) ∙ first_passed early (in_order (drop 6 (encode_rules F i g s m r))) (ap (λ (b : Answer). b.number) met) ∙ late

        pub late_is : late_of F i g found m r ≡ encode_of F i g s m r
        unfolding encode_of late_of measurement_of
        late_is = rw (whole_is, results_are)
