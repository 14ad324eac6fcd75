-- The exponent of the test bound, which the record holds in its place: the bound, its bits and every length are had from it exactly. Assumes nothing.
use mathlib.Core.Path.{◌≡◌, refl, ap, ◌∙◌}
use mathlib.Core.Bool.{true, false, cond}
use Prim.Native.Nat.{ℕ, suc, ◌+◌, ◌-◌, ◌*◌, ◌%◌, ◌^◌, ◌≤◌, ◌<◌}
use native.Mathlib.Nat.{mul-le-mul, le_antisymm, le_trans, lt_of_le_of_lt, lt_of_not-le, one-mul, mod-eq_of_lt, pow-suc}
use native.Mathlib.Omega.{arith}
use lib.Dec.{lit<}
use lib.Pow.{pow_pos, pow_mono}
use borrow.Author.Tests.{ne_eqb, le-ltb}
use Rattle.rules.specs.Rules.{out_of}
use Rattle.rules.proofs.Chain.{within}
use Rattle.pine.specs.Record.{ceil_div, digits, test_exponent_of}
use Rattle.pine.proofs.Digits.{digits_above, digits_least, ceil_le}

-- ---- over any exponent

-- the digits of 2b - 1, where b is 2 ^ k
pub digits_below : (k : ℕ) → digits (2 * 2 ^ k - 1) ≡ k + 1
digits_below k =
    let e : 2 ^ suc k ≡ 2 ^ k * 2 = pow-suc 2 k in
    let p : 0 < 2 ^ k = pow_pos k in
    le_antisymm
    (omega (arith, digits_least (2 * 2 ^ k - 1) (suc k) (omega arith)))
    (omega (arith, lt_of_not-le (λ (g : digits (2 * 2 ^ k - 1) ≤ k). omega (arith, pow_mono g, digits_above (2 * 2 ^ k - 1)))))

-- as a record answers for it
pub bound_none : (k : ℕ) → out_of k 63 ≡ true → 0 ≡ cond (out_of k 63) 0 (2 ^ k)
bound_none k h = rw h refl

pub bound_shifted : (k : ℕ) → out_of k 63 ≡ false → 1 * 2 ^ k % 2 ^ 64 ≡ cond (out_of k 63) 0 (2 ^ k)
bound_shifted k h = rw h (ap (λ (x : ℕ). x % 2 ^ 64) (one-mul (2 ^ k)) ∙ mod-eq_of_lt (lt_of_le_of_lt (pow_mono (within k 63 h).1) (lit< tt)))

pub bound_some : (k : ℕ) → 0 < k → k ≤ 63 → cond (out_of k 63) 0 (2 ^ k) ≡ 2 ^ k
bound_some k h l = rw (ne_eqb k 0 (λ e. omega arith), le-ltb 63 k l)

-- ---- how large it is: a byte holds it, for every multiplier and norm bound of 16 and 32 bits
pub exponent_room : (num den n : ℕ) → num ≤ 65535 → 0 < den → n ≤ 4294967295 → test_exponent_of num den n ≤ 48
exponent_room num den n hn hd h = digits_least (ceil_div (num * n) den) 48 (lt_of_le_of_lt (le_trans (ceil_le (num * n) den hd) (mul-le-mul hn h)) (lit< tt))
