-- `doubles::centred_of` meets its contract: 2 ^ 84 + 2 ^ 63 + 2 ^ 52 is given in MIR by its bit pattern. Assumes nothing.
use Rattle.std.proofs.Common.{ℕ, ◌/◌, ◌^◌, ◌<◌, arith, rules}
use lib.Ieee.{of_bits}
use Rattle.doubles.proofs.Centred.{high_number, low_number, nearest_centred}
use Rattle.doubles.proofs.centred_of.Goals as goal

upper_half : (x : ℕ) → x < 2 ^ 64 → x / 2 ^ 32 < 2 ^ 33
upper_half x h = omega arith

pub float_from_bits-high : goal.float_from_bits-high
float_from_bits-high c = high_number (c.wrapping_add_u64-raised.result / 2 ^ 32) (upper_half c.wrapping_add_u64-raised.result (search rules))

pub float_from_bits-low : goal.float_from_bits-low
float_from_bits-low c = low_number c.wrapping_add_u64-raised.result

pub returns : goal.returns
unfolding of_bits
returns c =
    nearest_centred c.args.y c.wrapping_sub_u64.result c.gap_of.result c.wrapping_add_u64-word.result c.wrapping_add_u64-raised.result c.requires (search rules) c.wrapping_sub_u64.ensures.value c.gap_of.ensures c.wrapping_add_u64-word.ensures.value (search rules) c.wrapping_add_u64-raised.ensures.value
