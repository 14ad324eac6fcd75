-- The pairs of bits in the two halves of a byte. Assumes nothing.
use mathlib.Core.Path.{◌≡◌, sym, ◌∙◌}
use Prim.Native.Nat.{ℕ, ◌+◌, ◌*◌, ◌/◌, ◌%◌, ◌<◌}
use native.Mathlib.Nat.{mod-eq_of_lt, div-div-eq-div-mul}
use native.Mathlib.Omega.{arith}
use lib.Arith.{mod-mul}

-- the pairs of a byte, by its halves
pub halves : (b : ℕ) → b % 16 ≡ b / 4 % 4 * 4 + b % 4
halves b = mod-mul b {m = 4} {c = 4} (omega arith) (omega arith)

pub pair_0 : (b : ℕ) → b % 16 % 4 ≡ b % 4
pair_0 b = omega (arith, halves b)

pub pair_1 : (b : ℕ) → b % 16 / 4 ≡ b / 4 % 4
pair_1 b = omega (arith, halves b)

pub pair_3 : (b : ℕ) → b < 256 → b / 16 / 4 ≡ b / 64 % 4
pair_3 b h = div-div-eq-div-mul b 16 4 ∙ sym (mod-eq_of_lt (omega arith))
