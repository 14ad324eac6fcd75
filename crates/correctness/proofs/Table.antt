-- The worked examples hold: each row is computed from the definitions. Assumes nothing.
use mathlib.Core.Path.{◌≡◌, refl, ap, ◌∙◌}
use mathlib.Core.Bool.{Bool, true, false, ◌&&◌, false≢true}
use Prim.Native.Nat.{ℕ, zero, suc, ◌-◌, ◌*◌, ◌^◌, ◌≤◌}
use native.Mathlib.Nat.{zero-mul}
use native.Mathlib.Omega.{arith}
use lib.Dec.{eqb}
use borrow.Author.Tests.{le-ltb, eqb-true, eqb-false}
use lib.Ieee.{of_bits, of_int, neg, div}
use Rattle.field64.specs.Field.{p64}
use Rattle.doubles.specs.Doubles.{floor_limit64, unusable, floor_div, mod_p, floor_of, coordinate_of, centred, decoded, decoded_of}
use Rattle.doubles.specs.Doubles as doubles
use Rattle.doubles.specs.declared.Coordinate.{Coordinate}
use Rattle.field64.specs.Sums.{evaluate}
use Rattle.pine.specs.Param.{param_rules, param_answer}
use Rattle.pine.specs.Record.{halvings, digits, sq_norm_bound_of, sq_norm_bits_of, wr_test_bound, wr_test_bits_of, bit_checked_len_of, encoded_input_len_of}
use Rattle.flp.specs.Bits.{bits, groups}
use Rattle.flp.specs.Tests.{pairs, weighed, weigh, test_of, tests_of}
use Rattle.flp.specs.Encode.{elements, sq_norm, true_sq_norm_of, test_bits, results_of, measurement_of, coordinates_rule, every_rule, enough_rule, range_rule, count_in_range, encode_rules, encode_of}
use Rattle.vdaf.specs.Aggregates.{accumulate_answer, accumulate_of}
use Rattle.correctness.specs.Table.{Table, double, element, beyond}

zero_at : (f : ℕ) → f ≤ 30 → coordinate_of p64 floor_limit64 (double 0x8000_0000_0000_0000) f ≡ element 0
unfolding coordinate_of of_bits unusable doubles.element floor_of floor_div mod_p
zero_at f h = simp (le-ltb 30 f h, zero-mul)

-- ---- a row at every f, by a test that is computed at each

both : (a b : Bool) → (a && b) ≡ true → (a ≡ true) × (b ≡ true)
both true b g = (refl, g)
both false b g = absurd (false≢true g)

same : Coordinate → Coordinate → Bool
same a b = eqb a.answer.number b.answer.number && (eqb a.answer.place b.answer.place && eqb a.element b.element)

same_is : (a b : Coordinate) → same a b ≡ true → a ≡ b
unfolding same
same_is a b h =
    let t = both (eqb a.answer.number b.answer.number) (eqb a.answer.place b.answer.place && eqb a.element b.element) h in
    let u = both (eqb a.answer.place b.answer.place) (eqb a.element b.element) t.1 in
    let n : a.answer.number ≡ b.answer.number = eqb-true _ _ t.0 in
    let k : a.answer.place ≡ b.answer.place = eqb-true _ _ u.0 in
    let y : a.element ≡ b.element = eqb-true _ _ u.1 in
    λ i. record { answer = record { number = n i; place = k i }; element = y i }

every : (test : ℕ → Bool) → ℕ → Bool
every test zero = test zero
every test (suc n) = test (suc n) && every test n

every_at : (test : ℕ → Bool) (n : ℕ) → every test n ≡ true → (f : ℕ) → f ≤ n → test f ≡ true
unfolding every
every_at test zero h zero l = h
every_at test zero h (suc f) l = absurd (omega arith)
every_at test (suc n) h f l = go (eqb f (suc n)) refl (both (test (suc n)) (every test n) h) (λ g m. every_at test n g f m)
  where
    go : (t : Bool) → eqb f (suc n) ≡ t → (test (suc n) ≡ true) × (every test n ≡ true) → (every test n ≡ true → f ≤ n → test f ≡ true) → test f ≡ true
    go true e g more = ap test (eqb-true f (suc n) e) ∙ g.0
    go false e g more = more g.1 (omega (arith, eqb-false f (suc n) e))

pattern_at : (pattern : ℕ) (y : Coordinate) → every (λ f. same (coordinate_of p64 floor_limit64 (double (pattern - f * 2 ^ 52)) f) y) 30 ≡ true → (f : ℕ) → f ≤ 30 → coordinate_of p64 floor_limit64 (double (pattern - f * 2 ^ 52)) f ≡ y
pattern_at pattern y h f l = same_is _ _ (every_at (λ f. same (coordinate_of p64 floor_limit64 (double (pattern - f * 2 ^ 52)) f) y) 30 h f l)

pub table : Table
unfolding same every coordinate_of decoded_of of_bits unusable doubles.element floor_of floor_div mod_p centred decoded of_int neg div encode_of encode_rules measurement_of results_of coordinates_rule every_rule enough_rule range_rule count_in_range elements sq_norm true_sq_norm_of test_bits bits evaluate groups pairs weighed weigh test_of tests_of halvings digits sq_norm_bound_of sq_norm_bits_of wr_test_bound wr_test_bits_of bit_checked_len_of encoded_input_len_of param_answer param_rules accumulate_of accumulate_answer
table = record {
  minus_quarter = refl;
  three_quarters = refl;
  three_quarters_2 = refl;
  three_tenths = refl;
  minus_zero = zero_at;
  huge = refl;
  largest = refl;
  limit = refl;
  top = refl;
  top_next = refl;
  bottom = refl;
  bottom_next = refl;
  top_30 = refl;
  top_next_30 = refl;
  bottom_30 = refl;
  bottom_next_30 = refl;
  top_at = pattern_at 0x43df_ffff_ffe0_0000 (element 9223372034707292160) refl;
  top_next_at = pattern_at 0x43df_ffff_ffe0_0001 beyond refl;
  bottom_at = pattern_at 0xc3df_ffff_ffe0_0000 (element 9223372034707292161) refl;
  bottom_next_at = pattern_at 0xc3df_ffff_ffe0_0001 beyond refl;
  last = refl;
  middle = refl;
  middle_1 = refl;
  tie_down = refl;
  tie_up = refl;
  short = refl;
  long = refl;
  wraps = refl;
  wraps_v = refl;
  wraps_b = refl;
  far = refl;
  later_test = refl;
  later_coordinate = refl;
  second_row = refl;
  tighter = refl;
  wide = refl;
  no_multiplier = refl;
  missed = refl;
  missed_every = refl;
  just_enough = refl;
  too_few = refl;
  all_asked = refl;
  all_in_range = refl;
  all_in_range_every = refl;
  none_in_range = refl;
  none_in_range_every = refl;
  none_found = refl;
  long_first = refl;
  true_wraps = refl;
  true_long = refl;
  true_short = refl;
}
