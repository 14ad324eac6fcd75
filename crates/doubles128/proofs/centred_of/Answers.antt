-- `doubles128::centred_of` meets its contract: 2 ^ 84 + 2 ^ 64 + 2 ^ 52 is given in MIR by its bit pattern. Assumes nothing.
use Rattle.std.proofs.Common.{ℕ, ◌+◌, ◌-◌, ◌*◌, ◌/◌, ◌%◌, ◌^◌, ◌<◌, false, pos, refl, arith, lit<, lit≤, rules}
use lib.Ieee.{fin, of_bits}
use Rattle.field128.specs.Field128.{p128, number_of}
use Rattle.doubles.proofs.Centred.{high_number, low_number, digits_centred}
use Rattle.doubles128.proofs.Sizes.{upper_few, centre_of}
use Rattle.doubles128.proofs.centred_of.Lts as lts
use Rattle.doubles128.proofs.centred_of.Reads as reads
use Rattle.doubles128.proofs.centred_of.Tie as tie
use Rattle.doubles128.proofs.centred_of.Goals as goal

abbrev After-wrapping_sub_u64-word : Type 0
After-wrapping_sub_u64-word = lts.After-wrapping_sub_u64 tie.the-claims reads.Pre reads.Post tie.handed_clauses

abbrev word : After-wrapping_sub_u64-word → ℕ
word c = c.wrapping_sub_u64-word.result

abbrev sign : After-wrapping_sub_u64-word → ℕ
sign c = c.nonzero-sign.result

few : (c : After-wrapping_sub_u64-word) → (1 - sign c) * 2 ^ 32 + word c / 2 ^ 32 < 2 ^ 33
few c = upper_few (sign c) (word c) (search rules)

half : (n : ℕ) → n % 2 ^ 32 < 2 ^ 32
half n = omega arith

pub float_from_bits-high : goal.float_from_bits-high
float_from_bits-high c = high_number _ (few c)

pub float_from_bits-low : goal.float_from_bits-low
float_from_bits-low c = low_number (word c)

pub returns : goal.returns
unfolding of_bits
returns c =
    digits_centred p128 (2 ^ 64) (number_of c.args.y) ((1 - sign c) * 2 ^ 32 + word c / 2 ^ 32) (word c % 2 ^ 32) 4503603923386368 (fin false 4294971393 (pos 52)) c.requires.fact_1 (few c) (half (word c)) (lit< tt) (refl, refl) refl
    (centre_of p128 18446744073709551588 c.args.y.low c.args.y.high (sign c) (word c) refl (lit≤ tt) c.requires.fact_1 c.requires.fact_2 (search rules) c.nonzero-sign.ensures c.wrapping_sub_u64-word.ensures.value (search rules))
