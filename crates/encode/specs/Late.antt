-- Encoding in two steps: what is asked of the rows, and what follows when the tests' results are found. No public contract cites these. Assumes nothing.
use Rattle.std.specs.Prelude.{◌≡◌, cond, List, ◌++◌, ℕ, length, eqb, Float}
use Rattle.rules.specs.declared.Answer.{Answer}
use Rattle.rules.specs.Rules.{first}
use Rattle.field64.specs.Field.{sub_mod}
use Rattle.pine.specs.declared.PineParam.{PineParam}
use Rattle.pine.specs.declared.record.Pine.{Pine}
use Rattle.pine.specs.Param.{Field}
use Rattle.pine.specs.Record.{sq_norm_bound_of, sq_norm_bits_of, wr_test_bound, wr_test_bits_of, encoded_input_len_of}
use Rattle.rows.specs.Rows.{row_rule}
use Rattle.flp.specs.Encode.{elements, sq_norm, true_sq_norm_of, coordinates_rule, gradient_len_rule, true_sq_norm_rule, sq_norm_rule, range_rule, Encoded, encode_outcome}
use Rattle.measurement.specs.Parts.{checked_of}

-- rules 7 to 9 and 17 by a record's lengths, with the answer on row 2
abbrev pub rows_answer : Field → Pine → (row_2 : Answer) → (gradient : List Float) (measurement results : List ℕ) → Answer
rows_answer F R a₂ g m r =
    first a₂
    (first (row_rule 3 (length m) (F.words_in R.encoded_input_len))
    (first (row_rule 4 (length r) (F.words_in R.num_wr_tests))
    (first (coordinates_rule F.floor_limit R.frac_bits 0 g)
    (gradient_len_rule (length g) R.dimension))))

-- the rows are as long as the inputs say; the results found are elements
abbrev pub Rooms : Field → PineParam → (gradient : List Float) (found measurement results : List ℕ) → Type 0
Rooms F i g found m r = (length g ≡ i.dimension) × ((length found ≡ i.num_wr_tests) × ((length m ≡ F.words_in (encoded_input_len_of i)) × (length r ≡ F.words_in i.num_wr_tests)))

-- rules from 21 on, the results given, and what they leave in the rows
module _ (F : Field) (i : PineParam) (g : List Float) (found measurement results : List ℕ) where
  abbrev pub late_answer : Answer
  late_answer =
      first (true_sq_norm_rule i.true_sq_norm (true_sq_norm_of i.frac_bits g) (sq_norm_bound_of i))
      (first (sq_norm_rule (sq_norm F.p (elements F.p i.frac_bits g)) (sq_norm_bound_of i))
      (range_rule i.wr_test_rule F.p (wr_test_bound i) i.num_wr_successes found))

  -- the measurement of these results
  abbrev pub measurement_with : List ℕ
  measurement_with =
      elements F.p i.frac_bits g
      ++ checked_of F.p (sq_norm_bits_of i) (sq_norm F.p (elements F.p i.frac_bits g)) (sub_mod F.p (sq_norm_bound_of i) (sq_norm F.p (elements F.p i.frac_bits g))) (wr_test_bits_of i) (wr_test_bound i) i.num_wr_successes found

  unfoldable pub late_of : Encoded
  late_of = cond (eqb late_answer.number 0) (encode_outcome late_answer (F.words measurement_with) (F.words found)) (encode_outcome late_answer measurement results)
