-- `pine::record::power_above` meets its contract: the shift loses nothing. Assumes nothing.
use mathlib.Core.Path.{◌≡◌, ap, ◌∙◌}
use Prim.Native.Nat.{ℕ, ◌*◌, ◌%◌, ◌^◌, ◌<◌}
use native.Mathlib.Nat.{one-mul, mod-eq_of_lt, lt_of_le_of_lt}
use native.Mathlib.Omega.{arith}
use lib.Dec.{lit<}
use lib.Pow.{pow_mono}
use Rattle.pine.specs.Record.{digits}
use Rattle.pine.proofs.Digits.{digits_least}
use Rattle.pine.proofs.record.power_above.Goals as goal

shifted : (n : ℕ) → n < 4611686018427387904 → 1 * 2 ^ digits n % 2 ^ 64 ≡ 2 ^ digits n
shifted n h = ap (λ (x : ℕ). x % 2 ^ 64) (one-mul (2 ^ digits n)) ∙ mod-eq_of_lt (lt_of_le_of_lt (pow_mono (digits_least n 62 h)) (lit< tt))

pub overflow_shl-result : goal.overflow_shl-result
overflow_shl-result c = omega (arith, c.bits.ensures, digits_least c.args.n 62 c.requires)

pub returns : goal.returns
returns c = ap (λ (k : ℕ). 1 * 2 ^ k % 2 ^ 64) c.bits.ensures ∙ shifted c.args.n c.requires
