-- Batches of reports, summed by lists of calls: what the statements ask can be met, and each bound is reached. Past what they ask, they fail. Assumes nothing.
use mathlib.Core.Bool.{true}
use mathlib.Core.Path.{◌≡◌, refl, ap}
use mathlib.Core.List.Permᴰ
use mathlib.Core.List.{List, [], ◌∷◌, ◌++◌}
use Prim.Native.Nat.{ℕ, ◌+◌, ◌-◌, ◌*◌, ◌^◌, ◌<◌, ◌≤◌}
use native.Mathlib.Omega.{arith}
use lib.Dec.{lit<, lit≤}
use lib.IntN.{pos, negsuc, nat_abs}
use lib.ListN.{length, replicate}
use lib.Ieee.{Float, of_bits, round, of_int, neg, div}
use Rattle.rules.specs.Rules.{accepted}
use Rattle.field64.specs.Field.{p64}
use Rattle.field64.specs.Sums.{evaluate}
use Rattle.doubles.specs.Doubles.{floor_div, mod_p, unusable, floor_of, element, centred, decoded}
use Rattle.pine.specs.declared.PineParam.{PineParam}
use Rattle.pine.specs.declared.WrTestRule.TheVariants.{Every}
use Rattle.pine.specs.Param.{Field64, param_rules, param_answer, standard, with_later}
use Rattle.pine.specs.Record.{halvings, digits, sq_norm_bound_of, sq_norm_bits_of, wr_test_bound, wr_test_bits_of, bit_checked_len_of, encoded_input_len_of}
use Rattle.rows.specs.Rows.{add_rows, sub_rows, elements_rule}
use Rattle.rows.proofs.Elements.{elements_below}
use Rattle.flp.specs.Bits.{bits, groups}
use Rattle.flp.specs.Tests.{pairs, weighed, weigh, test_of, tests_of}
use Rattle.flp.specs.Encode.{elements, sq_norm, true_sq_norm_of, test_bits, results_of, measurement_of, coordinates_rule, every_rule, enough_rule, range_rule, count_in_range, encode_rules, encode_answer, encode_outcome, encode_of}
use Rattle.vdaf.specs.Aggregates.{empty_answer, empty_of, accumulate_answer, accumulate_of, subtract_of, sizes_rule, decoded_sums, unshard_answer, unshard_of}
use Rattle.correctness.specs.Table.{double, param, none, one, large}
use Rattle.correctness.specs.Tally.{nothing, Call, Aggregates, step, run, Begun, Joined}
use Rattle.correctness.specs.Correctness.{sumℤ, nearest_over, Report, shares_of, floors_sum}
use Rattle.correctness.proofs.Correctness.{decodable_64}
use Rattle.correctness.proofs.Examples.{joins, row_of}
use Rattle.sensitivity.specs.Sensitivity.{Short, Within, Exactly, Replaced, Removed, squared_distance, Summed, decoded_at}
use Rattle.sensitivity.proofs.Moves.{moved_sums, moved_doubles_64}
use Rattle.sensitivity.proofs.Length.{true_lengths_64}

-- ---- reports

-- n 5, so B 25; d 2, f 1, one test; the switch is on
abbrev inputs : PineParam
inputs = with_later 87 10 Every true (standard 5 2 1 1 1 1 1)

-- elements x and y; v and u; 63 in seven bits, the result being 0, and the success bit
abbrev with_v : (x y : ℕ) (v u : List ℕ) → List ℕ
with_v x y v u = x ∷ y ∷ (v ++ (u ++ (1 ∷ 1 ∷ 1 ∷ 1 ∷ 1 ∷ 1 ∷ 0 ∷ 1 ∷ [])))

abbrev twenty_five : List ℕ
twenty_five = 1 ∷ 0 ∷ 0 ∷ 1 ∷ 1 ∷ []

abbrev zero_bits : List ℕ
zero_bits = replicate 5 0

-- the stream's byte 5 skips both coordinates
abbrev Encodes : (gradient : List Float) (measurement : List ℕ) → Type 0
Encodes gradient measurement = encode_of Field64 inputs gradient (5 ∷ []) (replicate 20 7) (7 ∷ []) ≡ encode_outcome accepted measurement (0 ∷ [])

-- cut in two, every element of the left side being 9
abbrev nines : List ℕ
nines = replicate 20 9

abbrev rest : List ℕ → List ℕ
rest measurement = sub_rows p64 measurement nines

made : (gradient : List Float) (measurement : List ℕ) → Encodes gradient measurement → 20 ≡ length measurement → length (rest measurement) ≡ length measurement → (elements_rule p64 (rest measurement)).number ≡ 0
    → add_rows p64 nines (rest measurement) ≡ measurement → Report Field64 inputs
made gradient measurement call long rest_long rest_below adds = record {
  gradient = gradient;
  stream = 5 ∷ [];
  found_measurement = replicate 20 7;
  found_results = 7 ∷ [];
  measurement = measurement;
  results = 0 ∷ [];
  call = call;
  left = nines;
  right = rest measurement;
  left_row = record { long = long; below = elements_below p64 0 nines refl };
  right_row = record { long = rest_long; below = elements_below p64 0 (rest measurement) rest_below };
  adds = adds;
}

-- 2.5, 0.0; -2.5, 0.0; 1.5, 2.0; -1.5, -2.0; 0.5, 1.0
abbrev east_gradient : List Float
east_gradient = double 0x4004_0000_0000_0000 ∷ none ∷ []

abbrev west_gradient : List Float
west_gradient = double 0xc004_0000_0000_0000 ∷ none ∷ []

abbrev up_gradient : List Float
up_gradient = double 0x3ff8_0000_0000_0000 ∷ double 0x4000_0000_0000_0000 ∷ []

abbrev down_gradient : List Float
down_gradient = double 0xbff8_0000_0000_0000 ∷ double 0xc000_0000_0000_0000 ∷ []

abbrev short_gradient : List Float
short_gradient = double 0x3fe0_0000_0000_0000 ∷ one ∷ []

record Encoded : Type 0 where
  east : Encodes east_gradient (with_v 5 0 twenty_five zero_bits)
  west : Encodes west_gradient (with_v (p64 - 5) 0 twenty_five zero_bits)
  up : Encodes up_gradient (with_v 3 4 twenty_five zero_bits)
  down : Encodes down_gradient (with_v (p64 - 3) (p64 - 4) twenty_five zero_bits)
  -- v 5, u 20
  short : Encodes short_gradient (with_v 1 2 (1 ∷ 0 ∷ 1 ∷ 0 ∷ 0 ∷ []) (0 ∷ 0 ∷ 1 ∷ 0 ∷ 1 ∷ []))

encoded : Encoded
unfolding of_bits unusable element floor_of floor_div mod_p encode_of encode_rules measurement_of results_of coordinates_rule every_rule enough_rule range_rule count_in_range elements sq_norm test_bits bits evaluate groups pairs weighed weigh test_of tests_of halvings digits sq_norm_bound_of sq_norm_bits_of wr_test_bound wr_test_bits_of bit_checked_len_of encoded_input_len_of param_answer param_rules true_sq_norm_of
encoded = record { east = refl; west = refl; up = refl; down = refl; short = refl }

-- floors 5, 0 and -5, 0; 3, 4 and -3, -4; 1, 2
east : Report Field64 inputs
east = made east_gradient (with_v 5 0 twenty_five zero_bits) encoded.east refl refl refl refl

west : Report Field64 inputs
west = made west_gradient (with_v (p64 - 5) 0 twenty_five zero_bits) encoded.west refl refl refl refl

up : Report Field64 inputs
up = made up_gradient (with_v 3 4 twenty_five zero_bits) encoded.up refl refl refl refl

down : Report Field64 inputs
down = made down_gradient (with_v (p64 - 3) (p64 - 4) twenty_five zero_bits) encoded.down refl refl refl refl

short : Report Field64 inputs
short = made short_gradient (with_v 1 2 (1 ∷ 0 ∷ 1 ∷ 0 ∷ 0 ∷ []) (0 ∷ 0 ∷ 1 ∷ 0 ∷ 1 ∷ [])) encoded.short refl refl refl refl

-- ---- batches

abbrev with_east : List (Report Field64 inputs)
with_east = east ∷ short ∷ []

abbrev with_west : List (Report Field64 inputs)
with_west = short ∷ west ∷ []

abbrev without : List (Report Field64 inputs)
without = short ∷ []

replaced : Replaced Field64 inputs with_east with_west
unfolding true_sq_norm_of sq_norm_bound_of floor_of floor_div of_bits made east west
replaced = record {
  both = without;
  one = east;
  other = west;
  first = ∣ Permᴰ.cons refl (Permᴰ.cons refl Permᴰ.nil) ∣₁;
  second = ∣ Permᴰ.swap refl refl ∣₁;
  one_short = lit≤ tt;
  other_short = lit≤ tt;
}

removed : Removed Field64 inputs with_east without
unfolding true_sq_norm_of sq_norm_bound_of floor_of floor_div of_bits made east
removed = record { one = east; first = ∣ Permᴰ.cons refl (Permᴰ.cons refl Permᴰ.nil) ∣₁; one_short = lit≤ tt }

-- ---- their sums

record Totals : Type 0 where
  -- 10 and 0; 6 and 8
  replaced_total : squared_distance Field64 inputs with_east with_west ≡ 4 * sq_norm_bound_of inputs
  slanting_total : squared_distance Field64 inputs (up ∷ []) (down ∷ []) ≡ 4 * sq_norm_bound_of inputs
  removed_total : squared_distance Field64 inputs with_east without ≡ sq_norm_bound_of inputs
  -- two reports, 5 each
  two_sum : nat_abs (floors_sum Field64 inputs 0 (east ∷ east ∷ [])) ≡ 2 * inputs.norm_bound

totals : Totals
unfolding sq_norm_bound_of sumℤ floor_of floor_div of_bits made east west up down short
totals = record { replaced_total = refl; slanting_total = refl; removed_total = refl; two_sum = refl }

-- by the theorem at most that
apart : squared_distance Field64 inputs with_east with_west ≤ 4 * sq_norm_bound_of inputs
apart = moved_sums.replaced Field64 inputs with_east with_west replaced

apart_from_fewer : squared_distance Field64 inputs with_east without ≤ sq_norm_bound_of inputs
apart_from_fewer = moved_sums.removed Field64 inputs with_east without removed

-- ---- their decoded rows

abbrev empties : Aggregates
empties k = record { row = 0 ∷ 0 ∷ []; tally = nothing }

begun : (k : ℕ) → Begun Field64 2 (empties k)
unfolding empty_of empty_answer param_answer param_rules
begun k = record { inputs = inputs; found = 7 ∷ p64 ∷ []; long = refl; call = refl; none = λ r. refl }

-- the shares in adding: the left one, and each report's right one
abbrev left_share : List ℕ
left_share = 9 ∷ 9 ∷ []

abbrev east_share : List ℕ
east_share = (p64 - 4) ∷ (p64 - 9) ∷ []

abbrev west_share : List ℕ
west_share = (p64 - 14) ∷ (p64 - 9) ∷ []

abbrev short_share : List ℕ
short_share = (p64 - 8) ∷ (p64 - 7) ∷ []

-- each to an aggregate of its own
abbrev both_added : (right : List ℕ) → List Call → List Call
both_added right more = Call.accumulate 0 inputs left_share ∷ Call.accumulate 1 inputs right ∷ more

abbrev east_calls : List Call
east_calls = both_added east_share (both_added short_share [])

abbrev west_calls : List Call
west_calls = both_added west_share (both_added short_share [])

-- east is added, and withdrawn
abbrev withdrawn_calls : List Call
withdrawn_calls = both_added east_share (both_added short_share (Call.subtract 1 inputs east_share ∷ Call.subtract 0 inputs left_share ∷ []))

abbrev JoinedBy : List Call → List (Report Field64 inputs) → Type 0
JoinedBy calls reports = Joined (run Field64 empties calls 0).tally (run Field64 empties calls 1).tally (shares_of Field64 inputs reports)

east_joined : JoinedBy east_calls with_east
unfolding run step accumulate_of accumulate_answer param_answer param_rules made east short
east_joined =
    joins (run Field64 empties east_calls 0).tally (run Field64 empties east_calls 1).tally (shares_of Field64 inputs with_east) (left_share ∷ east_share ∷ short_share ∷ [])
    (refl, (refl, (refl, tt))) (λ r e. rw (e.0, e.1.0, e.1.1.0))

west_joined : JoinedBy west_calls with_west
unfolding run step accumulate_of accumulate_answer param_answer param_rules made west short
west_joined =
    joins (run Field64 empties west_calls 0).tally (run Field64 empties west_calls 1).tally (shares_of Field64 inputs with_west) (left_share ∷ west_share ∷ short_share ∷ [])
    (refl, (refl, (refl, tt))) (λ r e. rw (e.0, e.1.0, e.1.1.0))

withdrawn_joined : JoinedBy withdrawn_calls without
unfolding run step accumulate_of accumulate_answer subtract_of param_answer param_rules made short
withdrawn_joined =
    joins (run Field64 empties withdrawn_calls 0).tally (run Field64 empties withdrawn_calls 1).tally (shares_of Field64 inputs without) (left_share ∷ east_share ∷ short_share ∷ [])
    (refl, (refl, (refl, tt))) (λ r e. rw (e.0, e.1.0, e.1.1.0))

abbrev summed : (calls : List Call) (reports : List (Report Field64 inputs)) → JoinedBy calls reports → Summed Field64 inputs reports
summed calls reports q = record { start = empties; begun = begun; calls = calls; left = 0; right = 1; joined = q; decodable = decodable_64 inputs reports; found = large ∷ large ∷ []; long = refl }

abbrev east_summed : Summed Field64 inputs with_east
east_summed = summed east_calls with_east east_joined

abbrev west_summed : Summed Field64 inputs with_west
west_summed = summed west_calls with_west west_joined

abbrev withdrawn_summed : Summed Field64 inputs without
withdrawn_summed = summed withdrawn_calls without withdrawn_joined

-- by the theorem: the sums of coordinate 0 being 6, -4 and 1, the doubles differ by 2n / 2 ^ f at the most, or n / 2 ^ f; and each is its sum / 2 ^ f
close : Within (decoded_at Field64 inputs 0 east_summed) (decoded_at Field64 inputs 0 west_summed) 10 2
unfolding sumℤ floor_of floor_div of_bits made east west short
close = moved_doubles_64.replaced inputs (unfold param_answer param_rules in refl) with_east with_west replaced east_summed west_summed 0 (lit< tt) (lit≤ tt) (lit≤ tt)

close_to_fewer : Within (decoded_at Field64 inputs 0 east_summed) (decoded_at Field64 inputs 0 withdrawn_summed) 5 2
unfolding sumℤ floor_of floor_div of_bits made east short
close_to_fewer = moved_doubles_64.removed inputs (unfold param_answer param_rules in refl) with_east without removed east_summed withdrawn_summed 0 (lit< tt) (lit≤ tt) (lit≤ tt)

exactly : Exactly (decoded_at Field64 inputs 0 west_summed) (negsuc 3) 2
unfolding sumℤ floor_of floor_div of_bits made west short
exactly = (moved_doubles_64.exact inputs (unfold param_answer param_rules in refl) with_west west_summed).at 0 (lit< tt) (lit≤ tt)

record Decoded : Type 0 where
  -- 3.0, -2.0 and 0.5
  east_is : decoded_at Field64 inputs 0 east_summed ≡ double 0x4008_0000_0000_0000
  west_is : decoded_at Field64 inputs 0 west_summed ≡ double 0xc000_0000_0000_0000
  withdrawn_is : decoded_at Field64 inputs 0 withdrawn_summed ≡ double 0x3fe0_0000_0000_0000
  -- -2.0 is not -5 / 2
  not_exactly : Exactly (decoded_at Field64 inputs 0 west_summed) (negsuc 4) 2 → ⊥
  -- no nearer than 2n / 2 ^ f, or n / 2 ^ f
  no_nearer : Within (decoded_at Field64 inputs 0 east_summed) (decoded_at Field64 inputs 0 west_summed) 9 2 → ⊥
  no_nearer_to_fewer : Within (decoded_at Field64 inputs 0 east_summed) (decoded_at Field64 inputs 0 withdrawn_summed) 4 2 → ⊥

distinct : ◌≡◌ {A = ℕ} 4 5 → ⊥
distinct h = omega arith

decoded_rows : Decoded
unfolding run step accumulate_of accumulate_answer subtract_of param_answer param_rules unshard_of unshard_answer sizes_rule decoded_sums decoded centred of_int neg div round of_bits
decoded_rows = record { east_is = refl; west_is = refl; withdrawn_is = refl; not_exactly = λ h. absurd (distinct (ap nat_abs h)); no_nearer = λ h. omega arith; no_nearer_to_fewer = λ h. omega arith }

-- ---- why sums within 2 ^ 53, and why true lengths

-- sums that are 2 apart, as doubles 4 apart
rounded : Within (nearest_over 0 (pos (2 ^ 53 + 3))) (nearest_over 0 (pos (2 ^ 53 + 1))) 2 1 → ⊥
unfolding of_int div round
rounded h = omega arith

-- 4294967296.0 alone, n 65536: v wraps to 4294967295, and encoding accepts
abbrev wide : PineParam
wide = param 65536 1 1 1

abbrev long_measurement : List ℕ
long_measurement = 4294967296 ∷ (bits 33 4294967295 ++ (bits 33 1 ++ (bits 21 1048575 ++ (1 ∷ []))))

long_call : encode_of Field64 wide (large ∷ []) (1 ∷ []) (replicate 89 7) (7 ∷ []) ≡ encode_outcome accepted long_measurement (0 ∷ [])
unfolding of_bits unusable element floor_of floor_div mod_p encode_of encode_rules measurement_of results_of coordinates_rule every_rule enough_rule range_rule count_in_range elements sq_norm test_bits bits evaluate groups pairs weighed weigh test_of tests_of halvings digits sq_norm_bound_of sq_norm_bits_of wr_test_bound wr_test_bits_of bit_checked_len_of encoded_input_len_of param_answer param_rules true_sq_norm_of
long_call = refl

long : Report Field64 wide
unfolding bits
long = record {
  gradient = large ∷ [];
  stream = 1 ∷ [];
  found_measurement = replicate 89 7;
  found_results = 7 ∷ [];
  measurement = long_measurement;
  results = 0 ∷ [];
  call = long_call;
  left = replicate 89 0;
  right = long_measurement;
  left_row = row_of (replicate 89 0) refl;
  right_row = row_of long_measurement refl;
  adds = refl;
}

record Long : Type 0 where
  -- 2 ^ 64, and B is 2 ^ 32
  not_short : Short wide long.gradient → ⊥
  -- alone it moves the sums further than two short reports can
  further : 4 * sq_norm_bound_of wide < squared_distance Field64 wide (long ∷ []) []

is_long : Long
unfolding true_sq_norm_of sq_norm_bound_of sumℤ floor_of floor_div of_bits long
is_long = record { not_short = λ h. omega arith; further = lit< tt }

-- ---- true lengths

record Lengths : Type 0 where
  -- 9 + 16, whatever the signs
  positive : true_sq_norm_of 1 up_gradient ≡ 25
  negative : true_sq_norm_of 1 down_gradient ≡ 25
  -- the floors of -0.25 and 2 ^ 32 are -1 and 2 ^ 32
  unreduced : true_sq_norm_of 0 (double 0xbfd0_0000_0000_0000 ∷ large ∷ []) ≡ 1 + 2 ^ 64
  reduced : sq_norm p64 (elements p64 0 (double 0xbfd0_0000_0000_0000 ∷ large ∷ [])) ≡ 2 ^ 32
  -- 1.0 twice, n 1: not short, and refused by rule 10
  refused : (encode_answer Field64 (param 1 4 2 2) (one ∷ one ∷ none ∷ none ∷ []) (3 ∷ 0 ∷ []) (replicate 18 7) (replicate 2 7)).number ≡ 10

lengths : Lengths
unfolding true_sq_norm_of of_bits unusable element floor_of floor_div mod_p encode_rules results_of coordinates_rule every_rule enough_rule range_rule count_in_range elements sq_norm evaluate groups pairs weighed weigh test_of tests_of halvings digits sq_norm_bound_of sq_norm_bits_of wr_test_bound wr_test_bits_of bit_checked_len_of encoded_input_len_of param_answer param_rules
lengths = record { positive = refl; negative = refl; unreduced = refl; reduced = refl; refused = refl }

-- by the theorem, of floors 3, 4: v is 25
v_is : sq_norm p64 (elements p64 1 up_gradient) ≡ true_sq_norm_of 1 up_gradient
unfolding true_sq_norm_of sq_norm_bound_of floor_of floor_div of_bits
v_is = true_lengths_64.v inputs (unfold param_answer param_rules in refl) up_gradient (lit≤ tt)
