-- `pine::record::proof_len` meets its contract. Assumes nothing.
use Prim.Native.Nat.{ℕ, ◌^◌, ◌≤◌, ◌<◌}
use native.Mathlib.Omega.{arith}
use lib.Pow.{pow_pos, pow_mono}
use Rattle.pine.specs.Record.{digits}
use Rattle.pine.proofs.Digits.{digits_least}
use Rattle.pine.proofs.record.proof_len.Goals as goal

above : (n : ℕ) → n < 2 ^ 32 → (0 < 2 ^ digits n) × (2 ^ digits n ≤ 2 ^ 32)
above n h = (pow_pos _, pow_mono (digits_least n 32 h))

pub overflow_mul-result : goal.overflow_mul-result
overflow_mul-result c = omega (arith, c.power_above.ensures, above c.args.calls (omega arith))

pub overflow_add-result : goal.overflow_add-result
overflow_add-result c = omega (arith, c.power_above.ensures, above c.args.calls (omega arith))

pub overflow_add-result-2 : goal.overflow_add-result-2
overflow_add-result-2 c = omega (arith, c.power_above.ensures, above c.args.calls (omega arith))
