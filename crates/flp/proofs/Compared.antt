-- Rows with the answers of the original Rust, one row for each refusal (that of 10 is in the table of `correctness`), and rows of the calls, the multipliers and the rule of the tests that the Rust does not have, computed from the definitions. Assumes nothing.
use mathlib.Core.Path.{◌≡◌, refl}
use mathlib.Core.Bool.{true, false}
use mathlib.Core.List.{List, [], ◌∷◌}
use Prim.Native.Nat.{ℕ, ◌-◌}
use lib.ListN.{replicate}
use lib.Ieee.{Float, binary64, of_bits}
use Rattle.field64.specs.Field.{p64, inverse_from}
use Rattle.doubles.specs.Doubles.{floor_div, mod_p, unusable, floor_of, element}
use Rattle.pine.specs.declared.PineParam.{PineParam}
use Rattle.pine.specs.declared.WrTestRule.{WrTestRule}
use Rattle.pine.specs.declared.WrTestRule.TheVariants.{Every, Enough}
use Rattle.rules.specs.Rules.{answer, accepted}
use Rattle.pine.specs.Param.{Field64, param_rules, param_answer, standard, with_later, with_alpha}
use Rattle.pine.specs.Record.{halvings, digits, sq_norm_bound_of, sq_norm_bits_of, wr_test_bound, wr_test_bits_of, bit_checked_len_of, encoded_input_len_of, input_len_of}
use Rattle.field64.specs.Sums.{evaluate}
use Rattle.rows.specs.Outcome.{Outcome, outcome}
use Rattle.flp.specs.Bits.{bits, groups}
use Rattle.flp.specs.Tests.{pairs, weighed, weigh, test_of, tests_of, run_tests_rules, run_tests_of}
use Rattle.flp.specs.Encode.{elements, sq_norm, true_sq_norm_of, test_bits, results_of, measurement_of, coordinates_rule, every_rule, enough_rule, range_rule, count_in_range, encode_outcome, encode_rules, encode_answer, encode_of}
use Rattle.flp.specs.Circuits.{gradient_part, checked_part, results_part, test_parts, test_number, success_bit, norm_v, norm_u, term_a, term_n, test_terms, term_w, term_g, chunks_taken, valid_rules, valid_value, valid_calls, valid_of, valid_equal_rules, valid_equal_value, valid_equal_calls, valid_equal_of, part_rules, part_of, gradient_part_of, checked_part_of, results_part_of}

abbrev double : ℕ → Float
double b = of_bits binary64 b

abbrev other : PineParam
other = standard 9 6 2 4 4 3 2

abbrev any : List ℕ
any = (1585446675937841368 ∷ 7713914763314685786 ∷ 4439448776366754703 ∷ 10165027665383847897 ∷ 1090396360377453094 ∷ 10430779633273967791 ∷ 17477362246067780643 ∷ 11632994891556335705 ∷ 10754394637803157173 ∷ 1141153371300629929 ∷ 10801332806156616911 ∷ 914761360679426580 ∷ 4078239883182463692 ∷ 10268654918125279152 ∷ 2456641775679608523 ∷ 7731750658069747094 ∷ 9973894190648387236 ∷ 10531498782278263232 ∷ 10334922596725336632 ∷ 12580729232405932079 ∷ 1901042282212365707 ∷ 10536861175493410705 ∷ 3465608723044488519 ∷ 1797276903956378115 ∷ 13136125050165459753 ∷ 10410757471710933047 ∷ 11418711589407294900 ∷ 9157231070389319135 ∷ 9808507260218814804 ∷ 14337340360533389438 ∷ 8588838448975835887 ∷ 17034486841352872401 ∷ 6670017245504332848 ∷ 4582661622865954733 ∷ 3316111241534796839 ∷ 14385317585936796820 ∷ 1509958490544479227 ∷ 5538618668647018159 ∷ 9133284679170082593 ∷ 6336008107541988039 ∷ 8279529517580348704 ∷ 11233311162323323400 ∷ 1350317716114554168 ∷ 9443493973184843536 ∷ 3043013691408259304 ∷ 6309815957650144511 ∷ 17215796697752958293 ∷ 7778961656703135618 ∷ 17746119819956681879 ∷ 1431845093225017808 ∷ [])

abbrev six_doubles : List Float
six_doubles = (double 13831905535543004365 ∷ double 4604930618986332160 ∷ double 9223372036854775808 ∷ double 4602678819172646912 ∷ double 13821547256400052224 ∷ double 4607182418800017408 ∷ [])

abbrev bytes : List ℕ
bytes = (165 ∷ 77 ∷ 202 ∷ 24 ∷ 37 ∷ 48 ∷ [])

pub record Rows : Type 0 where
  pub six : encode_of Field64 other six_doubles bytes (replicate 47 7) (replicate 3 7)
      ≡ encode_outcome accepted (18446744069414584315 ∷ 3 ∷ 0 ∷ 2 ∷ 18446744069414584320 ∷ 4 ∷ 0 ∷ 1 ∷ 0 ∷ 0 ∷ 0 ∷ 0 ∷ 1 ∷ 1 ∷ 1 ∷ 1 ∷ 1 ∷ 0 ∷ 0 ∷ 0 ∷ 1 ∷ 1 ∷ 0 ∷ 0 ∷ 0 ∷ 0 ∷ 0 ∷ 1 ∷ 1 ∷ 0 ∷ 1 ∷ 0 ∷ 0 ∷ 0 ∷ 0 ∷ 0 ∷ 1 ∷ 1 ∷ 0 ∷ 1 ∷ 0 ∷ 1 ∷ 1 ∷ 1 ∷ 1 ∷ 0 ∷ 0 ∷ []) (4 ∷ 3 ∷ 18446744069414584316 ∷ [])
  pub shares_1 : valid_of Field64 other 1 any (10750541312280087032 ∷ 16781078052021535861 ∷ 3960482443532127989 ∷ []) ≡ record { answer = accepted; value = 14251477014565239941; gadget_calls = 12 }
  pub shares_2 : valid_of Field64 other 2 any (10750541312280087032 ∷ 16781078052021535861 ∷ 3960482443532127989 ∷ []) ≡ record { answer = accepted; value = 7841204390973687853; gadget_calls = 12 }
  pub shares_3 : valid_of Field64 other 3 any (10750541312280087032 ∷ 16781078052021535861 ∷ 3960482443532127989 ∷ []) ≡ record { answer = accepted; value = 11853361539581365264; gadget_calls = 12 }
  pub shares_255 : valid_of Field64 other 255 any (10750541312280087032 ∷ 16781078052021535861 ∷ 3960482443532127989 ∷ []) ≡ record { answer = accepted; value = 1770569106695239457; gadget_calls = 12 }
  pub equal : valid_equal_of Field64 other 2 any ≡ record { answer = accepted; value = 4574290615551321951; gadget_calls = 2 }
  pub more_successes : encode_answer Field64 (standard 9 6 2 4 4 3 4) six_doubles bytes (replicate 47 7) (replicate 3 7) ≡ answer 1 0
  pub norm_0 : encode_answer Field64 (standard 0 6 2 4 4 3 2) six_doubles bytes (replicate 47 7) (replicate 3 7) ≡ answer 2 0
  pub dimension_0 : encode_answer Field64 (standard 9 0 2 4 4 3 2) six_doubles bytes (replicate 47 7) (replicate 3 7) ≡ answer 3 0
  pub fraction : encode_answer Field64 (standard 9 6 31 4 4 3 2) six_doubles bytes (replicate 47 7) (replicate 3 7) ≡ answer 4 0
  pub chunk : encode_answer Field64 (standard 9 6 2 4 0 3 2) six_doubles bytes (replicate 47 7) (replicate 3 7) ≡ answer 5 0
  pub tests : encode_answer Field64 (standard 9 6 2 4 4 257 2) six_doubles bytes (replicate 47 7) (replicate 3 7) ≡ answer 6 0
  pub short_stream : encode_answer Field64 other six_doubles (replicate 5 3) (replicate 46 7) (replicate 3 7) ≡ answer 7 2
  pub short_measurement : encode_answer Field64 other six_doubles bytes (replicate 46 7) (replicate 2 7) ≡ answer 7 3
  pub short_results : encode_answer Field64 other six_doubles bytes (replicate 47 7) (replicate 2 7) ≡ answer 7 4
  pub not_a_number : encode_answer Field64 other (double 0 ∷ double 0x7ff8_0000_0000_0000 ∷ []) bytes (replicate 47 7) (replicate 3 7) ≡ answer 8 1
  -- 8 and 17 are found in one pass, whatever the gradient's length: 1e300 and NaN
  pub huge_first : encode_answer Field64 other (double 0 ∷ double 0x7e37_e43c_8800_759c ∷ double 0x7ff8_0000_0000_0000 ∷ []) bytes (replicate 47 7) (replicate 3 7) ≡ answer 17 1
  pub huge_second : encode_answer Field64 other (double 0 ∷ double 0x7ff8_0000_0000_0000 ∷ double 0x7e37_e43c_8800_759c ∷ []) bytes (replicate 47 7) (replicate 3 7) ≡ answer 8 1
  -- 2 ^ 61, and with f 2 its floor 2 ^ 63
  pub huge_scaled : encode_answer Field64 other (double 0x43c0_0000_0000_0000 ∷ []) bytes (replicate 47 7) (replicate 3 7) ≡ answer 17 0
  pub short_gradient : encode_answer Field64 other (double 0 ∷ []) bytes (replicate 47 7) (replicate 3 7) ≡ answer 9 0
  -- v is 2 ^ 64 modulo p, within its bound; test 0 skips the coordinate, test 1 adds it
  pub second_test : encode_answer Field64 (standard 65536 1 0 1 1 3 1) (double 0x41f0_0000_0000_0000 ∷ []) (1 ∷ 3 ∷ 3 ∷ []) (replicate 133 7) (replicate 3 7) ≡ answer 11 1
  pub full_length : (valid_of Field64 other 0 (replicate 49 0) (replicate 2 0)).answer ≡ answer 7 1
  pub joint_length : (valid_of Field64 other 0 (replicate 50 0) (replicate 2 0)).answer ≡ answer 7 2
  pub no_share : (valid_of Field64 other 0 (replicate 50 0) (p64 ∷ 0 ∷ 0 ∷ [])).answer ≡ answer 13 0
  pub too_many : (valid_equal_of Field64 other 256 (replicate 50 0)).answer ≡ answer 13 0
  pub joint_element : (valid_of Field64 other 255 (replicate 50 0) (1 ∷ p64 ∷ 0 ∷ [])).answer ≡ answer 12 51

pub rows : Rows
unfolding encode_of encode_rules measurement_of results_of coordinates_rule every_rule enough_rule range_rule count_in_range elements sq_norm test_bits bits evaluate groups pairs weighed weigh test_of tests_of halvings digits sq_norm_bound_of sq_norm_bits_of wr_test_bound wr_test_bits_of bit_checked_len_of encoded_input_len_of element floor_of floor_div mod_p unusable param_answer param_rules of_bits valid_of valid_rules valid_value valid_calls gradient_part checked_part results_part test_parts test_number success_bit norm_v norm_u term_a term_n test_terms term_w term_g chunks_taken inverse_from input_len_of valid_equal_of valid_equal_rules valid_equal_value valid_equal_calls
rows = record { six = refl; shares_1 = refl; shares_2 = refl; shares_3 = refl; shares_255 = refl; equal = refl; more_successes = refl; norm_0 = refl; dimension_0 = refl; fraction = refl; chunk = refl; tests = refl; short_stream = refl; short_measurement = refl; short_results = refl; not_a_number = refl; huge_first = refl; huge_second = refl; huge_scaled = refl; short_gradient = refl; second_test = refl; full_length = refl; joint_length = refl; no_share = refl; too_many = refl; joint_element = refl }

-- ---- the two rules of the tests: n 2, d 3 and the multiplier 1 / 2, so that b and w are 2
abbrev narrow : WrTestRule → (T K : ℕ) → PineParam
narrow rule T K = with_later 1 2 rule false (standard 2 3 0 1 1 T K)

abbrev ones : List Float
ones = double 0x3ff0_0000_0000_0000 ∷ double 0x3ff0_0000_0000_0000 ∷ double 0x3ff0_0000_0000_0000 ∷ []

-- of five tests, 3, 0, -3, 1 and 2, the first and the third are out of range
abbrev five_tests : List ℕ
five_tests = 63 ∷ 21 ∷ 0 ∷ 53 ∷ 61 ∷ []

record RuleRows : Type 0 where
  missed : encode_of Field64 (narrow Enough 5 2) ones five_tests (replicate 24 7) (replicate 5 7)
      ≡ encode_outcome accepted (1 ∷ 1 ∷ 1 ∷ 1 ∷ 1 ∷ 0 ∷ 1 ∷ 0 ∷ 0 ∷ 0 ∷ 0 ∷ 0 ∷ 1 ∷ 0 ∷ 1 ∷ 0 ∷ 0 ∷ 0 ∷ 0 ∷ 1 ∷ 1 ∷ 1 ∷ 1 ∷ 0 ∷ []) (3 ∷ 0 ∷ (p64 - 3) ∷ 1 ∷ 2 ∷ [])
  missed_every : encode_answer Field64 (narrow Every 5 2) ones five_tests (replicate 24 7) (replicate 5 7) ≡ answer 11 0
  just_enough : encode_answer Field64 (narrow Enough 5 3) ones five_tests (replicate 24 7) (replicate 5 7) ≡ accepted
  too_few : encode_answer Field64 (narrow Enough 5 4) ones five_tests (replicate 24 7) (replicate 5 7) ≡ answer 20 3

rule_rows : RuleRows
unfolding encode_of encode_rules measurement_of results_of coordinates_rule every_rule enough_rule range_rule count_in_range elements sq_norm test_bits bits evaluate groups pairs weighed weigh test_of tests_of halvings digits sq_norm_bound_of sq_norm_bits_of wr_test_bound wr_test_bits_of bit_checked_len_of encoded_input_len_of element floor_of floor_div mod_p unusable param_answer param_rules of_bits
rule_rows = record { missed = refl; missed_every = refl; just_enough = refl; too_few = refl }

-- ---- the true squared norm, with the switch on: the original has no such rule
abbrev switched : (n d T K : ℕ) → PineParam
switched n d T K = with_later 87 10 Every true (standard n d 0 1 1 T K)

-- 1.0, -0.25 and 0.0: the floors 1, -1 and 0
abbrev one : Float
one = double 0x3ff0_0000_0000_0000

abbrev minus_quarter : Float
minus_quarter = double 0xbfd0_0000_0000_0000

abbrev none : Float
none = double 0

record TrueRows : Type 0 where
  -- 4294967296.0 at n 65536: 2 ^ 64 is above B, and 4294967295 modulo p is not
  wraps : encode_answer Field64 (switched 65536 1 1 1) (double 0x41f0_0000_0000_0000 ∷ []) (1 ∷ []) (replicate 89 7) (replicate 1 7) ≡ answer 21 0
  wraps_off : encode_answer Field64 (standard 65536 1 0 1 1 1 1) (double 0x41f0_0000_0000_0000 ∷ []) (1 ∷ []) (replicate 89 7) (replicate 1 7) ≡ accepted
  -- n 1: the squares 1 and 1 and 1 are above 1, before 10; one alone, of a negative floor, is within it
  both : encode_answer Field64 (switched 1 4 2 2) (one ∷ minus_quarter ∷ none ∷ one ∷ []) (3 ∷ 0 ∷ []) (replicate 18 7) (replicate 2 7) ≡ answer 21 0
  both_off : encode_answer Field64 (standard 1 4 0 1 1 2 2) (one ∷ minus_quarter ∷ none ∷ one ∷ []) (3 ∷ 0 ∷ []) (replicate 18 7) (replicate 2 7) ≡ answer 10 0
  within : encode_answer Field64 (switched 1 4 2 2) (none ∷ minus_quarter ∷ none ∷ none ∷ []) (3 ∷ 0 ∷ []) (replicate 18 7) (replicate 2 7) ≡ accepted
  -- a gradient too long is 9 first
  longer : encode_answer Field64 (switched 1 4 2 2) (one ∷ one ∷ one ∷ one ∷ one ∷ []) (3 ∷ 0 ∷ []) (replicate 18 7) (replicate 2 7) ≡ answer 9 0
  -- the largest floor and the smallest, of more than 64 digits
  largest : true_sq_norm_of 0 (double 0x43df_ffff_ffe0_0000 ∷ double 0xc3df_ffff_ffe0_0000 ∷ []) ≡ 170141183381241069226646338159194931200

true_rows : TrueRows
unfolding encode_of encode_rules measurement_of results_of coordinates_rule every_rule enough_rule range_rule count_in_range elements sq_norm test_bits bits evaluate groups pairs weighed weigh test_of tests_of halvings digits sq_norm_bound_of sq_norm_bits_of wr_test_bound wr_test_bits_of bit_checked_len_of encoded_input_len_of element floor_of floor_div mod_p unusable param_answer param_rules of_bits true_sq_norm_of
true_rows = record { wraps = refl; wraps_off = refl; both = refl; both_off = refl; within = refl; longer = refl; largest = refl }

-- ---- by fields: in contracts the name `encode_outcome` stands on both sides, where nothing holds it to its sense
record Fields : Type 0 where
  refused : encode_of Field64 other six_doubles (replicate 5 3) (replicate 47 7) (8 ∷ 9 ∷ []) ≡ record { answer = record { number = 7; place = 2 }; measurement = replicate 47 7; results = 8 ∷ 9 ∷ [] }
  taken : encode_of Field64 (standard 1 1 0 1 1 1 1) (double 0 ∷ []) (0 ∷ []) (replicate 9 7) (replicate 1 7)
      ≡ record { answer = record { number = 0; place = 0 }; measurement = 0 ∷ 0 ∷ 1 ∷ 1 ∷ 1 ∷ 1 ∷ 1 ∷ 0 ∷ 1 ∷ []; results = 0 ∷ [] }

fields : Fields
unfolding encode_of encode_rules measurement_of results_of coordinates_rule every_rule enough_rule range_rule count_in_range elements sq_norm test_bits bits evaluate groups pairs weighed weigh test_of tests_of halvings digits sq_norm_bound_of sq_norm_bits_of wr_test_bound wr_test_bits_of bit_checked_len_of encoded_input_len_of element floor_of floor_div mod_p unusable param_answer param_rules of_bits
fields = record { refused = refl; taken = refl }

-- ---- tests alone, and the parts of a vector
abbrev tests_alone : (xs stream results : List ℕ) → Outcome
tests_alone xs stream results = run_tests_of Field64 (standard 1 2 0 1 1 2 1) xs stream results

abbrev vector : List ℕ
vector = 3 ∷ 10 ∷ 11 ∷ 12 ∷ 13 ∷ 14 ∷ 15 ∷ 16 ∷ 17 ∷ 5 ∷ []

record Lent : Type 0 where
  -- test 0 adds the first coordinate and takes off the second; test 1 skips the first and adds the second
  alone : tests_alone (5 ∷ 7 ∷ []) (3 ∷ 13 ∷ []) (9 ∷ 9 ∷ []) ≡ outcome accepted ((p64 - 2) ∷ 7 ∷ [])
  alone_short : tests_alone (5 ∷ 7 ∷ []) (3 ∷ []) (9 ∷ []) ≡ outcome (answer 7 2) (9 ∷ [])
  alone_row : tests_alone (5 ∷ 7 ∷ []) (3 ∷ 13 ∷ []) (9 ∷ []) ≡ outcome (answer 7 3) (9 ∷ [])
  alone_element : tests_alone (5 ∷ p64 ∷ []) (3 ∷ 13 ∷ []) (9 ∷ 9 ∷ []) ≡ outcome (answer 12 1) (9 ∷ 9 ∷ [])
  -- d 1, L 8, T 1
  gradient : gradient_part_of Field64 (standard 1 1 0 1 1 1 1) vector ≡ outcome accepted (3 ∷ [])
  checked : checked_part_of Field64 (standard 1 1 0 1 1 1 1) vector ≡ outcome accepted (10 ∷ 11 ∷ 12 ∷ 13 ∷ 14 ∷ 15 ∷ 16 ∷ 17 ∷ [])
  results : results_part_of Field64 (standard 1 1 0 1 1 1 1) vector ≡ outcome accepted (5 ∷ [])
  part_short : results_part_of Field64 (standard 1 1 0 1 1 1 1) (3 ∷ []) ≡ outcome (answer 7 1) []
  part_element : gradient_part_of Field64 (standard 1 1 0 1 1 1 1) (3 ∷ 10 ∷ 11 ∷ 12 ∷ 13 ∷ 14 ∷ 15 ∷ 16 ∷ 17 ∷ p64 ∷ []) ≡ outcome (answer 12 9) []

lent : Lent
unfolding run_tests_of run_tests_rules gradient_part_of checked_part_of results_part_of part_of part_rules gradient_part checked_part results_part evaluate groups pairs weighed weigh test_of tests_of halvings digits sq_norm_bound_of sq_norm_bits_of wr_test_bound wr_test_bits_of bit_checked_len_of encoded_input_len_of input_len_of param_answer param_rules
lent = record {
  alone = refl;
  alone_short = refl;
  alone_row = refl;
  alone_element = refl;
  gradient = refl;
  checked = refl;
  results = refl;
  part_short = refl;
  part_element = refl;
}

-- ---- other multipliers. d 4, f 0, c = e = 1, T 2, K 2
abbrev multiplied : (n num den : ℕ) → PineParam
multiplied n num den = with_alpha num den (standard n 4 0 1 1 2 2)

record Multiplied : Type 0 where
  -- 19 comes before 7, which each of these breaks too
  encode : encode_answer Field64 (multiplied 1 0 1) [] [] [] [] ≡ answer 19 0
  alone : run_tests_of Field64 (multiplied 1 1 0) [] [] [] ≡ outcome (answer 19 0) []
  circuit : (valid_of Field64 (multiplied 1 0 0) 0 [] []).answer ≡ answer 19 0
  circuit_equal : (valid_equal_of Field64 (multiplied 1 1 0) 0 []).answer ≡ answer 19 0
  part : gradient_part_of Field64 (multiplied 1 0 1) [] ≡ outcome (answer 19 0) []
  -- 1 / 2 and n 2, so that b and w are 2; then 3 / 2, b 4 and w 3: -4 is out of range still, and -3 is in
  tight : encode_answer Field64 (multiplied 2 1 2) (one ∷ one ∷ one ∷ one ∷ []) (15 ∷ 0 ∷ []) (replicate 16 7) (replicate 2 7) ≡ answer 11 1
  looser : encode_answer Field64 (multiplied 2 3 2) (one ∷ one ∷ one ∷ one ∷ []) (15 ∷ 0 ∷ []) (replicate 18 7) (replicate 2 7) ≡ answer 11 1
  loose : encode_of Field64 (multiplied 2 3 2) (one ∷ one ∷ one ∷ one ∷ []) (15 ∷ 64 ∷ []) (replicate 18 7) (replicate 2 7)
      ≡ encode_outcome accepted (1 ∷ 1 ∷ 1 ∷ 1 ∷ 0 ∷ 0 ∷ 1 ∷ 0 ∷ 0 ∷ 0 ∷ 1 ∷ 1 ∷ 0 ∷ 1 ∷ 0 ∷ 0 ∷ 0 ∷ 1 ∷ []) (0 ∷ (p64 - 3) ∷ [])
  -- 1 / 1: b and w are 2. The gradient 1 0 0 0 with the stream 0x03 0x00; then the first test's number is 1, not 2
  report : valid_of Field64 (multiplied 1 1 1) 1 (1 ∷ 0 ∷ 0 ∷ 0 ∷ 1 ∷ 0 ∷ 0 ∷ 1 ∷ 1 ∷ 0 ∷ 0 ∷ 1 ∷ 1 ∷ (p64 - 1) ∷ []) (5 ∷ 7 ∷ 11 ∷ []) ≡ record { answer = accepted; value = 0; gadget_calls = 10 }
  other_number : valid_of Field64 (multiplied 1 1 1) 1 (1 ∷ 0 ∷ 0 ∷ 0 ∷ 1 ∷ 0 ∷ 1 ∷ 0 ∷ 1 ∷ 0 ∷ 0 ∷ 1 ∷ 1 ∷ (p64 - 1) ∷ []) (5 ∷ 7 ∷ 11 ∷ []) ≡ record { answer = accepted; value = 121; gadget_calls = 10 }

multiplied_rows : Multiplied
unfolding encode_of encode_rules measurement_of results_of coordinates_rule every_rule enough_rule range_rule count_in_range elements sq_norm test_bits bits evaluate groups pairs weighed weigh test_of tests_of halvings digits sq_norm_bound_of sq_norm_bits_of wr_test_bound wr_test_bits_of bit_checked_len_of encoded_input_len_of element floor_of floor_div mod_p unusable param_answer param_rules of_bits valid_of valid_rules valid_value valid_calls gradient_part checked_part results_part test_parts test_number success_bit norm_v norm_u term_a term_n test_terms term_w term_g chunks_taken inverse_from input_len_of valid_equal_of valid_equal_rules valid_equal_value valid_equal_calls run_tests_of run_tests_rules gradient_part_of checked_part_of results_part_of part_of part_rules
multiplied_rows = record { encode = refl; alone = refl; circuit = refl; circuit_equal = refl; part = refl; tight = refl; looser = refl; loose = refl; report = refl; other_number = refl }
