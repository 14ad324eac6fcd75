-- Worked rows, computed from the definitions. Assumes nothing.
use mathlib.Core.Path.{◌≡◌, refl}
use mathlib.Core.List.{List, [], ◌∷◌, ◌++◌, map}
use Prim.Native.Nat.{ℕ, ◌+◌, ◌-◌}
use lib.ListN.{length, take}
use lib.Ieee.{of_int, div, round, odd, units, size, span, climb}
use lib.Count.{count_trailing_zeros}
use Rattle.field64.specs.Field.{p64}
use Rattle.field64.specs.Sums.{evaluate}
use Rattle.doubles.specs.Doubles.{floor_div, mod_p, unusable, floor_of, element}
use Rattle.rules.specs.Rules.{answer, accepted}
use Rattle.rows.specs.Outcome.{outcome}
use Rattle.octets.specs.Octets.{to_bytes, element_bytes}
use Rattle.pine.specs.Param.{param_rules, param_answer}
use Rattle.pine.specs.Record.{halvings, digits, sq_norm_bound_of, sq_norm_bits_of, wr_test_bound, wr_test_bits_of, bit_checked_len_of, encoded_input_len_of}
use Rattle.flp.specs.Bits.{bits, groups}
use Rattle.flp.specs.Tests.{pairs, weighed, weigh, test_of, tests_of}
use Rattle.flp.specs.Encode.{elements, sq_norm, true_sq_norm_of, test_bits, results_of, measurement_of, coordinates_rule, every_rule, enough_rule, range_rule, count_in_range, encode_rules, encode_of}
use Rattle.load_draws.specs.Draws.{step, states, coordinate}
use Rattle.load_text.specs.Text.{digits_from, first_line, numbers_of}
use Rattle.load_report.specs.Report.{encoded_of, load_rules, words_of, report_of, write_report_of}

-- ---- the text

-- a line of digits, and lines joined
abbrev line : List ℕ → List ℕ
line ds = map (λ d. 48 + d) ds ++ (10 ∷ [])

abbrev joined : List (List ℕ) → List ℕ
joined [] = []
joined (l ∷ ls) = l ++ joined ls

-- a load's text: the seed, n, d, f, T, the numerator and the two last lines in digits; c, e and K are 1, the denominator is 10
abbrev text : (seed n d f T num rule switch : List ℕ) → List ℕ
text seed n d f T num rule switch =
    joined (line seed ∷ line n ∷ line d ∷ line f ∷ line (1 ∷ []) ∷ line (1 ∷ []) ∷ line T ∷ line (1 ∷ []) ∷ line num ∷ line (1 ∷ 0 ∷ []) ∷ line rule ∷ line switch ∷ [])

-- seed 1, n 1, d 1, f 0, T 1, the multiplier 87 / 10
abbrev plain : List ℕ
plain = text (1 ∷ []) (1 ∷ []) (1 ∷ []) (0 ∷ []) (1 ∷ []) (8 ∷ 7 ∷ []) (0 ∷ []) (0 ∷ [])

-- with another seed line
abbrev seeded : List ℕ → List ℕ
seeded seed = text seed (1 ∷ []) (1 ∷ []) (0 ∷ []) (1 ∷ []) (8 ∷ 7 ∷ []) (0 ∷ []) (0 ∷ [])

-- 2 ^ 64 - 1, and 2 ^ 64
abbrev widest : List ℕ
widest = 1 ∷ 8 ∷ 4 ∷ 4 ∷ 6 ∷ 7 ∷ 4 ∷ 4 ∷ 0 ∷ 7 ∷ 3 ∷ 7 ∷ 0 ∷ 9 ∷ 5 ∷ 5 ∷ 1 ∷ 6 ∷ 1 ∷ 5 ∷ []

abbrev wider : List ℕ
wider = 1 ∷ 8 ∷ 4 ∷ 4 ∷ 6 ∷ 7 ∷ 4 ∷ 4 ∷ 0 ∷ 7 ∷ 3 ∷ 7 ∷ 0 ∷ 9 ∷ 5 ∷ 5 ∷ 1 ∷ 6 ∷ 1 ∷ 6 ∷ []

abbrev refusal : (n k : ℕ) → List ℕ
refusal n k = element_bytes (n ∷ k ∷ [])

pub record Reports : Type 0 where
  -- the text itself, byte by byte
  pub bytes : plain ≡ 49 ∷ 10 ∷ 49 ∷ 10 ∷ 49 ∷ 10 ∷ 48 ∷ 10 ∷ 49 ∷ 10 ∷ 49 ∷ 10 ∷ 49 ∷ 10 ∷ 49 ∷ 10 ∷ 56 ∷ 55 ∷ 10 ∷ 49 ∷ 48 ∷ 10 ∷ 48 ∷ 10 ∷ 48 ∷ 10 ∷ []
  -- the floor -1; v 1, u 0; the test's 0 + 15 and its success; the result 0
  pub report : report_of plain
      ≡ element_bytes ((p64 - 1) ∷ 1 ∷ 0 ∷ 1 ∷ 1 ∷ 1 ∷ 1 ∷ 0 ∷ 1 ∷ 0 ∷ [])
  pub first_bytes : take 16 (report_of plain) ≡ 0 ∷ 0 ∷ 0 ∷ 0 ∷ 255 ∷ 255 ∷ 255 ∷ 255 ∷ 1 ∷ 0 ∷ 0 ∷ 0 ∷ 0 ∷ 0 ∷ 0 ∷ 0 ∷ []
  pub long : length (report_of plain) ≡ 80
  -- n 20, d 4, f 4, T 2, K 1: the floors -6, -7, -6 and 0; v 121, u 279; the results 0 and 13, of which the first has the success bit
  pub four : report_of (text (1 ∷ []) (2 ∷ 0 ∷ []) (4 ∷ []) (4 ∷ []) (2 ∷ []) (8 ∷ 7 ∷ []) (0 ∷ []) (0 ∷ []))
      ≡ element_bytes
      ((p64 - 6) ∷ (p64 - 7) ∷ (p64 - 6) ∷ 0 ∷ 1 ∷ 0 ∷ 0 ∷ 1 ∷ 1 ∷ 1 ∷ 1 ∷ 0 ∷ 0 ∷ 1 ∷ 1 ∷ 1 ∷ 0 ∷ 1 ∷ 0 ∷ 0 ∷ 0 ∷ 1 ∷ 1 ∷ 1 ∷ 1 ∷ 1 ∷ 1 ∷ 1 ∷ 1 ∷ 1 ∷ 0 ∷ 1 ∷ 0 ∷ 0 ∷ 1 ∷ 1 ∷ 0 ∷ 0 ∷ 0 ∷ 0 ∷ 1 ∷ 0 ∷ 0 ∷ 13 ∷ [])
  -- refusals: d 1025 and T 17 by 3 and 6, though every call takes them
  pub wide_d : report_of (text (0 ∷ []) (1 ∷ []) (1 ∷ 0 ∷ 2 ∷ 5 ∷ []) (9 ∷ 9 ∷ []) (1 ∷ []) (0 ∷ []) (0 ∷ []) (0 ∷ [])) ≡ refusal 3 0
  pub most_d : take 8 (report_of (text (0 ∷ []) (1 ∷ []) (1 ∷ 0 ∷ 2 ∷ 4 ∷ []) (0 ∷ []) (1 ∷ []) (8 ∷ []) (0 ∷ []) (0 ∷ []))) ≡ to_bytes 8 22
  pub many_tests : report_of (text (0 ∷ []) (1 ∷ []) (1 ∷ []) (0 ∷ []) (1 ∷ 7 ∷ []) (0 ∷ []) (0 ∷ []) (0 ∷ [])) ≡ refusal 6 0
  pub no_multiplier : report_of (text (0 ∷ []) (1 ∷ []) (1 ∷ []) (0 ∷ []) (1 ∷ 6 ∷ []) (0 ∷ []) (0 ∷ []) (0 ∷ [])) ≡ refusal 19 0
  pub no_seed : report_of (text (0 ∷ []) (1 ∷ []) (1 ∷ []) (0 ∷ []) (1 ∷ 6 ∷ []) (1 ∷ []) (0 ∷ []) (0 ∷ [])) ≡ refusal 22 0
  -- the gradient's own: at f 3 the floor is -3 and v 9, and B is 1; with the switch by 21
  pub too_long : report_of (text (1 ∷ []) (1 ∷ []) (1 ∷ []) (3 ∷ []) (1 ∷ []) (8 ∷ 7 ∷ []) (0 ∷ []) (0 ∷ [])) ≡ refusal 10 0
  pub truly_long : report_of (text (1 ∷ []) (1 ∷ []) (1 ∷ []) (3 ∷ []) (1 ∷ []) (8 ∷ 7 ∷ []) (0 ∷ []) (1 ∷ [])) ≡ refusal 21 0
  -- other text
  pub leading_zero : report_of (seeded (0 ∷ 1 ∷ [])) ≡ []
  pub empty_line : report_of (seeded []) ≡ []
  pub widest_seed : take 8 (report_of (seeded widest)) ≡ to_bytes 8 (p64 - 1)
  pub too_wide : report_of (seeded wider) ≡ []
  pub no_newline : report_of (take 25 plain) ≡ []
  pub thirteenth : report_of (plain ++ line (0 ∷ [])) ≡ []
  pub one_byte_more : report_of (plain ++ (10 ∷ [])) ≡ []
  pub carriage_return : report_of (49 ∷ 13 ∷ plain) ≡ []
  pub third_rule : report_of (text (1 ∷ []) (1 ∷ []) (1 ∷ []) (0 ∷ []) (1 ∷ []) (8 ∷ 7 ∷ []) (2 ∷ []) (0 ∷ [])) ≡ []
  pub third_switch : report_of (text (1 ∷ []) (1 ∷ []) (1 ∷ []) (0 ∷ []) (1 ∷ []) (8 ∷ 7 ∷ []) (0 ∷ []) (2 ∷ [])) ≡ []
  pub wide_numerator : report_of (text (1 ∷ []) (1 ∷ []) (1 ∷ []) (0 ∷ []) (1 ∷ []) (6 ∷ 5 ∷ 5 ∷ 3 ∷ 6 ∷ []) (0 ∷ []) (0 ∷ [])) ≡ []
  pub nothing : report_of [] ≡ []
  -- the call, with a row of the right length and with others
  pub other_row : write_report_of (seeded (0 ∷ [])) (7 ∷ []) ≡ outcome (answer 7 2) (7 ∷ [])
  pub right_row : write_report_of [] [] ≡ outcome accepted []

pub reports : Reports
unfolding step states coordinate of_int div round units odd size span climb count_trailing_zeros digits_from first_line numbers_of encoded_of load_rules words_of report_of write_report_of to_bytes element_bytes encode_of encode_rules measurement_of results_of coordinates_rule every_rule enough_rule range_rule count_in_range elements sq_norm true_sq_norm_of test_bits bits evaluate groups pairs weighed weigh test_of tests_of halvings digits sq_norm_bound_of sq_norm_bits_of wr_test_bound wr_test_bits_of bit_checked_len_of encoded_input_len_of element floor_of floor_div mod_p unusable param_answer param_rules
reports = record { bytes = refl; report = refl; first_bytes = refl; long = refl; four = refl; wide_d = refl; most_d = refl; many_tests = refl; no_multiplier = refl; no_seed = refl; too_long = refl; truly_long = refl; leading_zero = refl; empty_line = refl; widest_seed = refl; too_wide = refl; no_newline = refl; thirteenth = refl; one_byte_more = refl; carriage_return = refl; third_rule = refl; third_switch = refl; wide_numerator = refl; nothing = refl; other_row = refl; right_row = refl }
